-- A text in UTF-8 stays so when it is trimmed, and so do the texts of a tree. Assumes nothing.
use Rattle.std.specs.Prelude.{if◌then◌else◌, ◌≡◌, refl, Bool, true, false, ℕ, zero, suc, length, drop, get_or, replicate}
use Rattle.std.proofs.Common.{sym, subst, arith}
use mathlib.Core.List.{[], ◌∷◌, reverse, reverse-reverse}
use Rattle.definition.specs.Text.{Text, is_utf8, white1, white2, white3, front_width, back_width, strip, trim_front, trim_back, trim}
use Rattle.laws.specs.Each.{each_replicate}
use Rattle.laws.specs.Formats.{IsText}
use Rattle.laws.specs.FitTrees.{Texts, slim_texts}
use Rattle.theorems.specs.Utf8.{utf8_append, utf8_plain, low_begins, high_begins, white1_low, white2_first, white3_first, front_trim, Turned, turned_none, turned_cut, turned_two, turned_three, Neat}

-- ---- white space behind

back_step : (l : Text) → Turned l → Turned (drop (back_width (get_or l 0 0) (get_or l 1 0) (get_or l 2 0)) l)
unfolding back_width
back_step [] h = turned_none (back_width 0 0 0)
back_step (a ∷ l) h = by (white1 a) (white2 (get_or l 0 0) a) (white3 (get_or l 1 0) (get_or l 0 0) a) refl refl refl
  where
    two : (l : Text) → Turned (a ∷ l) → white2 (get_or l 0 0) a ≡ true → Turned (drop 1 l)
    two [] h e = turned_none 0
    two (b ∷ l) h e = let k = white2_first b a e in turned_two a b l (high_begins b (omega arith)) h

    three : (l : Text) → Turned (a ∷ l) → white3 (get_or l 1 0) (get_or l 0 0) a ≡ true → Turned (drop 2 l)
    three [] h e = turned_none 0
    three (b ∷ []) h e = turned_none 0
    three (b ∷ c ∷ l) h e = let (p, q) = white3_first c b a e in turned_three a b c l (high_begins c (omega arith)) h

    by : (t u v : Bool) → white1 a ≡ t → white2 (get_or l 0 0) a ≡ u → white3 (get_or l 1 0) (get_or l 0 0) a ≡ v
        → Turned (drop (if t then 1 else if u then 2 else if v then 3 else 0) (a ∷ l))
    by true u v x y z = turned_cut a l (low_begins a (white1_low a x)) h
    by false true v x y z = two l h y
    by false false true x y z = three l h z
    by false false false x y z = h

back_trim : (n : ℕ) (l : Text) → Turned l → Turned (strip back_width n l)
unfolding strip
back_trim zero l h = h
back_trim (suc n) l h = back_trim n (drop (back_width (get_or l 0 0) (get_or l 1 0) (get_or l 2 0)) l) (back_step l h)

pub utf8_trim : (s : Text) → is_utf8 s ≡ true → is_utf8 (trim s) ≡ true
unfolding trim trim_front trim_back
utf8_trim s h =
    let f = strip front_width (length s) s in
    back_trim (length f) (reverse f) (subst (λ (t : Text). is_utf8 t ≡ true) (sym (reverse-reverse f)) (front_trim (length s) s h))

-- ---- trees in UTF-8

pub neat_texts : Texts Neat IsText
neat_texts = record {
  plain = λ s a l. (slim_texts.plain s a l, utf8_plain a);
  trims = λ s h. (slim_texts.trims s h.0, utf8_trim s h.1);
  stars = λ s k h m. ((slim_texts.stars s k h.0 m).0, utf8_append s (replicate k 42) h.1 (utf8_plain (each_replicate k 42 (omega arith))));
}
