-- Periods written one after another. Assumes nothing.
use mathlib.Core.Path.{◌≡◌, sym, ap, ◌∙◌}
use mathlib.Core.List.{List, ◌∷◌, ◌++◌, []}
use Rattle.std.specs.Prelude.{Option}
use Prim.Native.Nat.{ℕ, ◌+◌, ◌<◌}
use lib.ListN.{take}
use lib.Seq.{take-add}
use Rattle.definition.specs.Base.{◌or◌}
use Rattle.definition.specs.Format.{field, times, Period, period, periods, earlier}
use Rattle.definition.specs.Calendar.{default_periods, or_hours}
use Rattle.bits.specs.Reads.{taken_at}
use Rattle.bits.specs.Steps.{Puts, put_no, put_more, put_list, put_same}
use Rattle.bits.specs.declared.Place.{Place}
use Rattle.bits.specs.declared.Field.{Field}
use Rattle.model.specs.Passes.{pass_read}
use Rattle.model.specs.Answers.{read_at, tails_period, next_reads}
use Rattle.model.specs.Splits.{stands_read}
use Rattle.model.specs.Lists.{Ahead, ahead_item, ahead_more}
use Rattle.day_sheet.specs.Days.{Listed}

pub default_put : {d d1 d2 d3 : List ℕ} {p p1 p2 p3 : Place} → Puts (field 32) 2 d p d1 p1 → Puts period (480, 720) d1 p1 d2 p2 → Puts period (780, 1020) d2 p2 d3 p3
    → Puts periods default_periods d p d3 p3
unfolding periods
default_put {d1 = d1} {p1 = p1} x y z = put_list 2 earlier period x (put_more 2 (put_more 2 (put_no 2 period d1 p1) y) z)

-- the first i periods stand from p on, and the others are ahead
pub record Copied (s : List ℕ) (q₀ : Place) (n : ℕ) (d : List ℕ) (p : Place) (q : Place) (i : ℕ) (d' : List ℕ) (p' : Place) : Type 0 where
  pub left : (l : List Period) → Ahead period s q₀ n 0 l → Ahead period s q n i l × Puts (times n period) (take i l) d p d' p'

pub copied_none : (s : List ℕ) (q : Place) (n : ℕ) (d : List ℕ) (p : Place) → Copied s q n d p q 0 d p
copied_none s q n d p = record { left = λ l a. (a, put_no n period d p) }

module _ {s : List ℕ} {q₀ : Place} {n : ℕ} {d : List ℕ} {p q : Place} {i : ℕ} {d' : List ℕ} {p' : Place} (u : Copied s q₀ n d p q i d' p') where
  pub copied_more : {x : Option Period × Place} {d'' : List ℕ} {p'' : Place} → i < n → x ≡ read_at period s q → Puts period (x.0 or (0, 0)) d' p' d'' p''
      → Copied s q₀ n d p x.1 (i + 1) d'' p''
  copied_more {x} lt e w = record {
    left = λ l a.
        let (b, o) = u.left l a in
        let t = ahead_item b lt in
        let y : (x.0 or (0, 0)) ≡ t.item = ap (λ (x : Option Period × Place). x.0 or (0, 0)) e ∙ ap (λ (o : Option Period). o or (0, 0)) (stands_read t.stands) in
        let z : take i l ++ ((x.0 or (0, 0)) ∷ []) ≡ take (i + 1) l =
        ap (λ (y : Period). take i l ++ (y ∷ [])) y ∙ ap (λ (y : List Period). take i l ++ take 1 y) (sym t.is) ∙ sym (take-add i 1 l) in
        (ahead_more b lt (pass_read (next_reads tails_period (0, 0) s q (ap (λ (x : Option Period × Place). x.1) e))), put_same z (put_more n o w));
  }

-- ---- a list or the default one

pub list_counts : (s : List ℕ) (q : Place) {x : Field ℕ Place} {l : List Period} {d d1 d2 : List ℕ} {p p1 p2 : Place} → x ≡ taken_at s q 32 → (x.value ≡ 0 → ⊥) → Listed s q l
    → Puts (field 32) x.value d p d1 p1 → ((l : List Period) → Ahead period s x.next x.value 0 l → Puts (times x.value period) l d1 p1 d2 p2)
    → Puts periods (or_hours l default_periods) d p d2 p2
unfolding periods
list_counts s q {x} {l} {d} {d1} {d2} {p} {p1} {p2} e n h w o = by_list l (rw (← e) at h)
  where
    by_list : (l : List Period) → Ahead period s x.next x.value 0 l → Puts periods (or_hours l default_periods) d p d2 p2
    by_list [] k = absurd (n (sym k.count))
    by_list (t ∷ l) k = put_list x.value earlier period (put_same (sym k.count) w) (o (t ∷ l) k)
