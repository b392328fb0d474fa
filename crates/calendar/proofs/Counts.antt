-- Exceptions that give no rule: one of them, and their number as 32 bits hold it. Assumes nothing.
use Rattle.std.proofs.Common.{◌≡◌, ℕ, ◌+◌, ◌%◌, ◌^◌, ◌<◌, Bool, true, false, true≢false, not, List, [], ◌∷◌, ◌++◌, sym, refl, ap, ◌∙◌, zero-add, arith}
use native.Mathlib.Nat.{zero-mod, mod-add-mod, mod-eq_of_lt, mod-mod, mod-lt}
use mathlib.Core.List.{flat_map}
use Rattle.std.specs.Prelude.{Option, Some, None, is_some}
use Rattle.std.specs.Option.{MatchOption}
use Rattle.std.specs.List.{filter, fold}
use lib.Pow.{pow_pos}
use Rattle.definition.specs.Base.{◌>>=◌, given, keep}
use Rattle.definition.specs.Ascii.{bytes}
use Rattle.definition.specs.Text.{Text}
use Rattle.definition.specs.Tree.{Element, all, all_in}
use Rattle.definition.specs.Recurrence as D
use Rattle.definition.specs.Recurrence.{recurrence_days, rule_of, days_of_rule}
use Rattle.definition.specs.Calendar.{recurring, calendar_elements, skipped}
use Rattle.tree.specs.Place.{meaning, Starts}
use Rattle.tree.specs.Answer.{found_child, none_child}
use Rattle.tree.specs.declared.element.Element.{Element as Place}
use Rattle.laws.specs.Keep.{keep_more}
use Rattle.recurrence.specs.Element.{rule_by}
use Rattle.recurrence.specs.declared.Rule.{Rule}
use Rattle.calendar.specs.Skipped.{one_if, without_rule, in_all}

-- ---- one exception: whether it has a rule

pub no_rule : (x : Element) (r : Option Rule) → r ≡ rule_by (rule_of x) → (b : Bool) → is_some r ≡ not b → b ≡ not (given (recurrence_days x))
unfolding recurrence_days
no_rule x r e b k = by (rule_of x) b (sym (ap is_some e) ∙ k)
  where
    by : (o : Option D.Rule) (b : Bool) → is_some (rule_by o) ≡ not b → b ≡ not (given (o >>= λ r. Some (days_of_rule r)))
    by None true e = refl
    by None false e = absurd (true≢false (sym e))
    by (Some r) true e = absurd (true≢false e)
    by (Some r) false e = refl

-- ---- sums, as so many bits hold them

module _ (m : ℕ) (f : List Element → ℕ) where
  pub first_sum : (l : List Element) → f l % m ≡ (0 + f l) % m
  first_sum l = ap (λ (n : ℕ). n % m) (sym (zero-add (f l)))

  pub last_sum : {t n : ℕ} {l : List Element} → f [] ≡ 0 → t ≡ (n + f l) % m → l ≡ [] → n < m → n ≡ t
  last_sum {n = n} y h z k =
      let a : n + f [] ≡ n = omega (arith, y) in
      sym (h ∙ ap (λ (l : List Element). (n + f l) % m) z ∙ ap (λ (x : ℕ). x % m) a ∙ mod-eq_of_lt k)

  module _ (one : Element → ℕ) (law : (e : Element) (l : List Element) → f (e ∷ l) ≡ one e + f l) where
    pub next_sum : (n u : ℕ) {t r : ℕ} {e : Element} {l k : List Element} → t ≡ (n + f l) % m → l ≡ e ∷ k → u % m ≡ one e % m → r ≡ (n + u) % m → t ≡ (r + f k) % m
    next_sum n u {e = e} {k = k} h z i j =
        let a : n + f (e ∷ k) ≡ one e + (n + f k) = omega (arith, law e k) in
        let b : u + (n + f k) ≡ n + u + f k = omega arith in
        h
        ∙ ap (λ (l : List Element). (n + f l) % m) z
        ∙ ap (λ (x : ℕ). x % m) a
        ∙ sym (mod-add-mod (one e) m (n + f k))
        ∙ ap (λ (x : ℕ). (x + (n + f k)) % m) (sym i)
        ∙ mod-add-mod u m (n + f k)
        ∙ ap (λ (x : ℕ). x % m) b
        ∙ sym (mod-add-mod (n + u) m (f k))
        ∙ ap (λ (x : ℕ). (x + f k) % m) (sym j)

pub without_more : (x : Element) (l : List Element) → without_rule (x ∷ l) ≡ one_if x + without_rule l
unfolding without_rule
without_more x l = keep_more (λ x. not (given (recurrence_days x))) x l

pub without_none : without_rule [] ≡ 0
unfolding without_rule keep
without_none = refl

pub without_both : (k l : List Element) → without_rule (k ++ l) ≡ without_rule k + without_rule l
without_both [] l = sym (ap (λ (n : ℕ). n + without_rule l) without_none ∙ zero-add (without_rule l))
without_both (x ∷ k) l = omega (arith, without_more x (k ++ l), without_more x k, without_both k l)

pub all_more : (e : Element) (l : List Element) → in_all (e ∷ l) ≡ without_rule (recurring e) + in_all l
unfolding flat_map
all_more e l = without_both (recurring e) (flat_map recurring l)

pub all_none : in_all [] ≡ 0
unfolding flat_map
all_none = without_none

pub no_sum : (m : ℕ) (f : List Element → ℕ) → f [] ≡ 0 → (l : List Element) → l ≡ [] → 0 ≡ f l % m
no_sum m f y l z = sym (ap (λ (l : List Element). f l % m) z ∙ ap (λ (n : ℕ). n % m) y ∙ zero-mod m)

pub skipped_is : (root : Element) → skipped root ≡ in_all (calendar_elements root)
unfolding skipped without_rule
skipped_is root = refl

-- of a calendar, by the element that its exceptions stand in
pub skipped_lem : (e : Element) {s : Text} {m : ℕ} (r : Option Place) → Starts s (bytes "Exceptions") (all e (bytes "Exceptions")) m r → {n : ℕ}
    → MatchOption r (n ≡ 0) (λ x. n ≡ without_rule (all (meaning x) (bytes "Exception")) % 2 ^ 32) → n ≡ without_rule (recurring e) % 2 ^ 32
skipped_lem e None h k = k ∙ no_sum (2 ^ 32) without_rule without_none (recurring e) (ap (λ (o : Option Element). all_in o (bytes "Exception")) (none_child e h refl))
skipped_lem e (Some x) h k = k ∙ sym (ap (λ (o : Option Element). without_rule (all_in o (bytes "Exception")) % 2 ^ 32) (found_child e h refl))

-- `filter`, in the definition's word
pub filtered : {A : Type 0} (p : A → Bool) (l : List A) → filter p l ≡ keep p l
unfolding keep
filtered p [] = refl
filtered p (x ∷ l) = rw (filtered p l)

-- ---- `fold`, from what was counted before

abbrev pub counted_on : ℕ → Element → ℕ
counted_on n e = (n + without_rule (recurring e) % 2 ^ 32) % 2 ^ 32

pub folded : (n : ℕ) (l : List Element) → n < 2 ^ 32 → fold counted_on n l ≡ (n + in_all l) % 2 ^ 32
folded n [] k = last_sum (2 ^ 32) (λ l. in_all l) {t = (n + in_all []) % 2 ^ 32} {n = n} {l = []} all_none refl refl k
folded n (x ∷ l) k =
    folded (counted_on n x) l (mod-lt _ (pow_pos 32))
    ∙ sym (next_sum (2 ^ 32) (λ l. in_all l) (λ e. without_rule (recurring e)) all_more n _ refl refl (mod-mod _ (2 ^ 32)) refl)
