-- What is written, from what the read answers. Assumes nothing.
use Rattle.std.specs.Result.{result_unwrap_or}
use Rattle.definition.specs.Answer.{answer_length}
use mathlib.Core.Path.{◌≡◌, refl, ap, ◌∙◌}
use mathlib.Core.List.{List}
use Prim.Native.Nat.{ℕ, ◌+◌, ◌-◌, ◌≤◌, ◌<◌}
use native.Mathlib.Omega.{arith}
use borrow.Author.Tests.{le-leb, lt-leb}
use lib.ListN.{length, take, replicate, length-append}
use lib.Seq.{take_at}
use Rattle.definition.specs.Text.{Text}
use Rattle.definition.specs.Refusal.{Answer, refused, gives, left, written, output, read_answer, most_program_bytes, program_writes}
use Rattle.read.specs.Answers.{Gives}
use Rattle.std.specs.Prelude.{Result, Ok, Err}
use Rattle.definition.specs.declared.Refusal.{Refusal}
use Rattle.read_model.specs.Writes.{Writes}

pub too_long : (tree : Text) (room : List ℕ) → most_program_bytes < length tree → Writes tree room room 0
unfolding program_writes
too_long tree room h = λ e. rw (lt-leb _ _ h)

-- the result stands at the front
fronts : (n : ℕ) (a : Answer) {out : List ℕ} → out ≡ left n a → (written a ≤ length out) × (take (written a) out ≡ output a)
fronts n (refused k) e = (omega arith, refl)
fronts n (gives l) {out} e =
    let z : List ℕ = replicate (n - length l) 0 in
    let m : length out ≡ length l + length z = ap length e ∙ length-append l z in
    (omega arith, ap (take (length l)) e ∙ take_at l z (length l) refl)

-- the length of what a read answers
pub length_is : (a : Result ℕ Refusal) → result_unwrap_or a 0 ≡ answer_length a
length_is (Ok n) = refl
length_is (Err e) = refl

pub writes : {tree : Text} {room work room' work' : List ℕ} {a : Result ℕ Refusal} (n : ℕ) → length tree ≤ most_program_bytes → Gives tree room work room' work' a → n ≡ answer_length a → Writes tree room room' n
unfolding program_writes
writes {tree} {room} {room' = room'} n h g e =
    let f = fronts (length room) (read_answer tree (length room)) g.leaves.given in
    let k : n ≡ written (read_answer tree (length room)) = e ∙ g.leaves.count in
    λ i. ap (λ (j : ℕ). take j room') k ∙ f.1 ∙ rw (le-leb _ _ h) (ap (λ (j : ℕ). output (read_answer tree j)) i)
