-- What writing a text into a buffer gives: document 01's number, the buffer at the end, and how many bytes of it are the text. Assumes nothing.
use Rattle.definition.specs.Answer.{answer_length, answer_number, refusal_number}
use Rattle.std.specs.Prelude.{◌≡◌, ℕ, ◌++◌, length, take, ◌≤◌, Option, Some, None, IfSome}
use Rattle.definition.specs.declared.Refusal.{Refusal}
use Rattle.std.specs.Prelude.{Result, Ok, Err}
use Rattle.std.proofs.Common.{sym, ap, ◌∙◌}
use Rattle.definition.specs.Text.{Text}
use Rattle.definition.specs.Duration.{most_minutes, duration_text}
use Rattle.definition.specs.Refusal.{Answer, refused, gives, result, left, written, ranged}
use Rattle.laws.specs.Buf.{Buf, holds, full, ◌▷◌, ▷-▷, ▷-full}

-- the text of minutes that are not below 0
abbrev pub minutes_answer : ℕ → ℕ → Answer
minutes_answer = ranged most_minutes duration_text

-- ---- the code's answer

-- document 01's number, and the length of the text
pub record Gives (a : Answer) (room : ℕ) (r : Result ℕ Refusal) (out : Text) : Type 0 where
  pub refusal : answer_number r ≡ result a
  pub count : answer_length r ≡ written a
  pub buffer : out ≡ left room a

-- ---- one step after the other

-- what a buffer and a place in it stand for: the bytes before the place, or too many where there is no place left
abbrev pub view : Text → Option ℕ → Buf
view d None = full (length d)
view d (Some n) = holds (length d) (take n d)

-- the text t was put at the place n, and r is the next place, none where the text did not fit
pub record Put (t d : Text) (n : ℕ) (d' : Text) (r : Option ℕ) : Type 0 where
  pub same : length d' ≡ length d
  pub inside : IfSome r (λ m. m ≤ length d')
  pub bytes : view d' r ≡ view d (Some n) ▷ t

infixr 6 ◌⨾◌
pub ◌⨾◌ : {t u d d' d'' : Text} {n n' : ℕ} {r : Option ℕ} → Put t d n d' (Some n') → Put u d' n' d'' r → Put (t ++ u) d n d'' r
◌⨾◌ {t} {u} {d} {n = n} p q =
    record { same = q.same ∙ p.same; inside = q.inside; bytes = q.bytes ∙ ap (λ (b : Buf). b ▷ u) p.bytes ∙ ▷-▷ (view d (Some n)) t u }

-- what did not fit does not fit with more behind it
pub cut : {t d d' : Text} {n : ℕ} (u : Text) → Put t d n d' None → Put (t ++ u) d n d' None
cut {t} {d} {d'} {n} u p =
    record { same = p.same; inside = tt; bytes = sym (▷-full (length d') u) ∙ ap (λ (b : Buf). b ▷ u) p.bytes ∙ ▷-▷ (view d (Some n)) t u }

-- an answer of what stands at the end
abbrev pub answer_of : Buf → Answer
answer_of (holds n t) = gives t
answer_of (full n) = refused 9

-- what stands before a place in a buffer, or a refusal
abbrev pub answer_by : Text → Result ℕ Refusal → Answer
answer_by d (Ok n) = gives (take n d)
answer_by d (Err e) = refused (refusal_number e)
