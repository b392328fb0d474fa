-- The elements of a name in a row, by the head at a position. Assumes nothing.
use mathlib.Core.Path.{◌≡◌, refl, ap, ◌∙◌}
use denote.Ref.{Bor}
use Rattle.std.specs.Prelude.{None, Option, Some, MatchOption, drop}
use Rattle.std.proofs.lemmas.List.{drop_all}
use mathlib.Core.Logic.{◌⊎◌, inl, inr}
use mathlib.Core.List.{List, ◌∷◌, []}
use Prim.Native.Nat.{ℕ, ◌+◌, ◌≤◌, ◌<◌}
use native.Mathlib.Omega.{arith}
use borrow.Author.Tests.{le-leb, lt-leb, le-ltb, lt-ltb, eq-eqb, ne_eqb}
use Rattle.definition.specs.Base.{◌or◌, keep, same}
use Rattle.definition.specs.Text.{Text}
use Rattle.definition.specs.Tree.{Rec, size, Element, elements, level, element, all, text_of}
use Rattle.tree.specs.Place.{IsHead, records_at, under, after, element_at, siblings, later_at, meaning, list_of, Past, Starts}
use Rattle.tree.specs.declared.element.Element.{Element as Place}
use Rattle.tree.specs.Answer.{found_child, none_child}
use Rattle.tree.specs.Root.{own_text}
use Rattle.tree.specs.declared.Head.{Head}
use Rattle.tree.proofs.Records.{le_or_lt}
use Rattle.tree.proofs.Walk.{records_after}

-- ---- rows

-- what is deeper than the row is passed over
level_after : (w d : ℕ) (rs : List Rec) → w ≤ d → level w rs ≡ level w (after d rs)
unfolding level after
level_after w d [] h = refl
level_after w d (r ∷ rs) h = go (le_or_lt r.depth d) (level_after w d rs h)
  where
    go : (r.depth ≤ d) ⊎ (d < r.depth) → level w rs ≡ level w (after d rs) → level w (r ∷ rs) ≡ level w (after d (r ∷ rs))
    go (inl p) i = simp (le-leb _ _ p)
    go (inr p) i = simp (lt-leb _ _ p, le-ltb r.depth w (omega arith), ne_eqb r.depth w (λ q. omega arith)) i

-- the elements of depth w at the front of the records at a position
abbrev pub row : Text → ℕ → ℕ → List Element
row s w at = elements (level w (records_at s at))

-- those of the name n
abbrev pub having : Text → List Element → List Element
having n l = keep (λ (c : Element). same c.name n) l

module _ (s : Text) (w at : ℕ) where
  pub row_cut : records_at s at ≡ [] → row s w at ≡ []
  unfolding level elements
  row_cut h = rw h

  module _ {h : Head} (g : IsHead s at h) where
    pub row_end : h.depth < w → row s w at ≡ []
    unfolding level elements
    row_end q = rw g.here (simp (lt-ltb _ _ q))

    pub row_here : h.depth ≡ w → row s w at ≡ element_at s at ∷ row s w h.next
    unfolding level elements element
    row_here q = rw (← q, g.here) (simp (le-ltb h.depth h.depth (omega arith), eq-eqb h.depth h.depth refl))

    row_deeper : w < h.depth → row s w at ≡ row s w h.next
    unfolding level
    row_deeper q = rw g.here (simp (le-ltb h.depth w (omega arith), ne_eqb h.depth w (λ i. omega arith)))

    -- what is deeper is skipped
    pub row_under : w < h.depth → {p : ℕ} → p ≡ h.next + size (under w (records_at s h.next)) → row s w at ≡ row s w p
    row_under q k = row_deeper q ∙ rw (records_after s w h.next k, level_after w w (records_at s h.next) (omega arith))

    -- the later siblings
    pub row_later : h.depth ≡ w → row s w h.next ≡ elements (siblings (records_at s at))
    unfolding siblings
    row_later q = rw (← q, g.here)

-- ---- the element at a position, by its head

module _ (s : Text) (at : ℕ) where
  name_cut : records_at s at ≡ [] → [] ≡ (element_at s at).name
  unfolding element
  name_cut h = rw h

  text_cut : records_at s at ≡ [] → [] ≡ (element_at s at).text
  unfolding element
  text_cut h = rw h

  pub below_cut : records_at s at ≡ [] → elements (element_at s at).below ≡ []
  unfolding element elements
  below_cut h = rw h

  module _ {h : Head} (g : IsHead s at h) where
    pub below_whole : elements (element_at s at).below ≡ row s (h.depth + 1) h.next
    unfolding element
    below_whole = rw g.here

    pub name_whole : h.name.now ≡ (element_at s at).name
    unfolding element
    name_whole = rw g.here

    text_whole : h.text.now ≡ (element_at s at).text
    unfolding element
    text_whole = rw g.here

-- what is read of the head of an element, where one stands
abbrev HeadOf : Place → Option Head → Type 0
HeadOf e o = MatchOption o (records_at e.tree.now e.at ≡ []) (IsHead e.tree.now e.at)

pub name_by : (e : Place) (o : Option Head) (x d : Bor Text) {φ : Head → Type 0} → d.now ≡ [] → HeadOf e o → MatchOption o (x ≡ d) φ
    → ((h : Head) → φ h → x.now ≡ h.name.now) → x.now ≡ (meaning e).name
name_by e None x d n p q f = ap (λ (b : Bor Text). b.now) q ∙ n ∙ name_cut e.tree.now e.at p
name_by e (Some h) x d n p q f = f h q ∙ name_whole e.tree.now e.at p

pub text_by : (e : Place) (o : Option Head) (x d : Bor Text) {φ : Head → Type 0} → d.now ≡ [] → HeadOf e o → MatchOption o (x ≡ d) φ
    → ((h : Head) → φ h → x.now ≡ h.text.now) → x.now ≡ (meaning e).text
text_by e None x d n p q f = ap (λ (b : Bor Text). b.now) q ∙ n ∙ text_cut e.tree.now e.at p
text_by e (Some h) x d n p q f = f h q ∙ text_whole e.tree.now e.at p

past_more : (s : Text) {from m : ℕ} (r : Option Place) → m ≤ from → Past s from r → Past s m r
unfolding Past
past_more s None q h = tt
past_more s (Some x) q h = record { tree = h.tree; after = omega (arith, h.after); inside = h.inside }

-- the same list, named otherwise, and from an earlier place on
starts_also : {s n : Text} {l k : List Element} {from m : ℕ} {r : Option Place} → k ≡ l → m ≤ from → Starts s n l from r → Starts s n k m r
starts_also e q h = record { is = e ∙ h.is; on = past_more _ _ q h.on }

module _ (s n : Text) (at : ℕ) where
  pub all_cut : records_at s at ≡ [] → Starts s n (all (element_at s at) n) (at + 1) None
  unfolding all element elements keep list_of Past
  all_cut h = record { is = rw h; on = tt }

  pub later_cut : records_at s at ≡ [] → Starts s n (later_at s n at) (at + 1) None
  unfolding siblings elements keep list_of Past
  later_cut h = record { is = rw h; on = tt }

  pub nth_cut : (k : ℕ) → records_at s at ≡ [] → Starts s n (drop k (later_at s n at)) (at + 1) None
  unfolding list_of Past
  nth_cut k h = record { is = ap (drop k) (later_cut h).is ∙ drop_all k [] (omega arith); on = tt }

  module _ {h : Head} (g : IsHead s at h) where
    all_row : all (element_at s at) n ≡ having n (row s (h.depth + 1) h.next)
    unfolding all
    all_row = rw (below_whole s at g)

    later_row : later_at s n at ≡ having n (row s h.depth h.next)
    unfolding siblings
    later_row = rw g.here

    beyond : at + 1 ≤ h.next
    beyond = omega (arith, g)

    pub all_whole : {r : Option Place} → Starts s n (having n (row s (h.depth + 1) h.next)) h.next r → Starts s n (all (element_at s at) n) (at + 1) r
    all_whole = starts_also all_row beyond

    pub later_whole : {r : Option Place} → Starts s n (having n (row s h.depth h.next)) h.next r → Starts s n (later_at s n at) (at + 1) r
    later_whole = starts_also later_row beyond

    pub nth_whole : (k : ℕ) {r : Option Place} → Starts s n (drop k (having n (row s h.depth h.next))) h.next r → Starts s n (drop k (later_at s n at)) (at + 1) r
    nth_whole k = starts_also (ap (drop k) later_row) beyond

-- ---- the trimmed text of a child

module _ {s n : Text} (e : Element) {m : ℕ} {r : Option Place} (h : Starts s n (all e n) m r) where
  pub text_none : r ≡ None → [] ≡ (text_of e n or [])
  unfolding text_of
  text_none q = rw (none_child e h q)

  pub text_found : {x : Place} {u : Text} → r ≡ Some x → u ≡ (own_text (meaning x) or []) → u ≡ (text_of e n or [])
  unfolding text_of
  text_found q k = k ∙ rw (found_child e h q)
