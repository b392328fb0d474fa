-- What is left after a text was written, from what the writing gives. Assumes nothing.
use Rattle.definition.specs.Answer.{answer_length, answer_number}
use mathlib.Core.Path.{◌≡◌, refl, ap, ◌∙◌}
use Rattle.definition.specs.declared.Refusal.{Refusal}
use Rattle.std.specs.Prelude.{Result}
use Prim.Native.Nat.{ℕ}
use lib.IntN.{ℤ, pos, negsuc}
use Rattle.definition.specs.Text.{Text}
use Rattle.definition.specs.Refusal.{Answer, result, left, ranged, duration_answer}
use Rattle.number.specs.Written.{Gives, minutes_answer}
use Rattle.mspdi.specs.Outcome.{leaves, from_zero}

pub is_left : {a : Answer} {room : ℕ} {r : Result ℕ Refusal} {out : Text} (number count : ℕ) → Gives a room r out → number ≡ answer_number r → count ≡ answer_length r
    → (number, out, count) ≡ leaves room a
is_left {a} {room} {r} {out} number count g e f =
    ap (λ (n : ℕ). (n, out, count)) (e ∙ g.refusal)
    ∙ ap (λ (l : Text). (result a, l, count)) g.buffer
    ∙ ap (λ (n : ℕ). (result a, left room a, n)) (f ∙ g.count)

pub by_sign : (z : ℤ) (room : ℕ) → minutes_answer (from_zero z) room ≡ duration_answer z room
unfolding ranged duration_answer
by_sign (pos n) room = refl
by_sign (negsuc n) room = refl
