-- What the words of a table of the calendars answer. Assumes nothing.
use Prim.Native.Nat.{ℕ, zero, suc, ◌-◌, ◌≤◌}
use native.Mathlib.Omega.{arith}
use mathlib.Core.Path.{◌≡◌, refl, sym, ap, ◌∙◌}
use mathlib.Core.List.{List}
use Rattle.std.specs.Prelude.{Option, Some, None, SomeIff}
use lib.ListN.{get_or}
use Rattle.definition.specs.Base.{◌>>=◌}
use Rattle.definition.specs.Calendar.{elapsed_name}
use Rattle.definition.specs.Task.{Context, unless_main}
use Rattle.definition.specs.Text.{Text}
use Rattle.definition.specs.Tree.{Element}
use Rattle.index.specs.declared.Table.{Table}
use Rattle.bits.specs.declared.Place.{Place}
use Rattle.pack.specs.Value.{starred_by, name_meaning}
use Rattle.rows.specs.Rows.{with_uid_in}
use Rattle.rows.specs.Tables.{sought_in}
use Rattle.names.specs.Context.{wanted_name, stars_in, name_in, context_at}
use Rattle.names.specs.Named.{name_by, name_at, named_by, name_of_row, named_in, elapsed_in}
use Rattle.names.specs.Naming.{named_by_lem}

-- ---- a word

pub word_lem : (word : ℕ) (o : Option ℕ) → SomeIff o (1 ≤ word) (word - 1) → (text : Text) → name_meaning text o ≡ name_by text word
unfolding name_meaning name_by
word_lem zero None h text = refl
word_lem zero (Some k) h text = absurd (omega (arith, h.0))
word_lem (suc n) None h text = absurd (h (omega arith))
word_lem (suc n) (Some k) h text = let z : k ≡ n = omega (arith, h.1) in ap (λ (n : ℕ). Some (starred_by text n)) z

-- ---- by a look at all calendars

module _ (d : List ℕ) (c : Place) (root : Element) (u : Text) where
  pub scan_there : (row : ℕ) (e : Element) (r : Option ℕ) → with_uid_in root u ≡ Some (row, e) → {text : Text} → text ≡ wanted_name e → {k : ℕ} → k ≡ stars_in d c root row e
      → name_meaning text r ≡ unless_main (context_at d c root) (starred_by text k) → name_meaning text r ≡ named_by (context_at d c root) u
  scan_there row e r h {text} i {k} j l =
      l
      ∙ ap (λ (t : Text). unless_main (context_at d c root) (starred_by t k)) i
      ∙ ap (λ (k : ℕ). unless_main (context_at d c root) (starred_by (wanted_name e) k)) j
      ∙ sym (named_by_lem d c root u ∙ ap (λ (o : Option (ℕ × Element)). o >>= λ y. unless_main (context_at d c root) (name_in d c root y)) h)

  pub scan_absent : with_uid_in root u ≡ None → None ≡ named_by (context_at d c root) u
  scan_absent h = sym (named_by_lem d c root u ∙ ap (λ (o : Option (ℕ × Element)). o >>= λ y. unless_main (context_at d c root) (name_in d c root y)) h)

-- ---- with a table or without one

module _ (x : Context) (s : Text) (w : List ℕ) {m : Option Table} where
  pub named_ready : (u : Text) {t : Table} → m ≡ Some t → {o : Option ℕ} → o ≡ sought_in s w t u → {n : Option Text} → n ≡ name_of_row s w t o → n ≡ named_in x s w m u
  unfolding named_in
  named_ready u {t} e i j = rw e (j ∙ ap (name_of_row s w t) i)

  pub named_none : (u : Text) → m ≡ None → {n : Option Text} → n ≡ named_by x u → n ≡ named_in x s w m u
  unfolding named_in
  named_none u e i = rw e i

module _ (x : Context) (w : List ℕ) {m : Option Table} where
  pub elapsed_ready : {t : Table} → m ≡ Some t → {word : ℕ} → word ≡ get_or w (name_at t t.rows) 0 → (a : Option ℕ) → ((text : Text) → name_meaning text a ≡ name_by text word)
      → name_meaning elapsed_name a ≡ elapsed_in x w m
  unfolding elapsed_in
  elapsed_ready {t} e {word} i a h =
      rw e (h elapsed_name ∙ ap (name_by elapsed_name) i)

  pub elapsed_none : m ≡ None → {n : Option Text} → n ≡ unless_main x elapsed_name → n ≡ elapsed_in x w m
  unfolding elapsed_in
  elapsed_none e i = rw e i
