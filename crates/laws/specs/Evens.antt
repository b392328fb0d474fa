-- Bits that go by the bit of a byte at which they begin, and not by the byte: what is put behind so many bits and behind as many more bytes is the
-- same. Assumes nothing.
use Rattle.std.specs.Prelude.{◌≡◌, refl, Bool, List, [], ◌∷◌, ◌++◌, ℕ, ◌+◌, ◌%◌, length, replicate}
use Rattle.std.proofs.Common.{ap, ◌∙◌, arith}
use Rattle.std.specs.Prelude.{Option, Some, None}
use Rattle.definition.specs.Bits.{Bits, bits_of, gap, pad}
use Rattle.definition.specs.Format.{Format, field, ◌⊗◌, via, put_given, depending, put_all, times, whole, count, flag, code, time, number, date, period, text, optional, list_of, periods, dates}
use Rattle.definition.specs.Pack.{Counts, project, calendar, constraint, activity, link, resource, assignment, expense, body}

pub record Even {A : Type 0} (f : Format A) : Type 0 where
  pub even : (n m : ℕ) (a : A) → n % 8 ≡ m % 8 → f.put n a ≡ f.put m a

-- what follows bits of one length
along : (n m : ℕ) {s t : Bits} → s ≡ t → n % 8 ≡ m % 8 → (n + length s) % 8 ≡ (m + length t) % 8
along n m e h = let k = ap (length {A = ℕ}) e in omega arith

join : (s t u v : Bits) → s ≡ t → u ≡ v → s ++ u ≡ t ++ v
join s t u v e f = ap (λ (l : Bits). l ++ u) e ∙ ap (λ (l : Bits). t ++ l) f

even_field : (w : ℕ) → Even (field w)
unfolding field
even_field w = record { even = λ n m a h. refl }

even_via : {A B : Type 0} (to : A → Option B) (from : B → A) {f : Format A} → Even f → Even (via to from f)
unfolding via
even_via to from e = record { even = λ n m a h. e.even n m (from a) h }

infixr 20 ◌&◌
◌&◌ : {A B : Type 0} {f : Format A} {g : Format B} → Even f → Even g → Even (f ⊗ g)
unfolding ◌⊗◌
◌&◌ {f = f} {g = g} x y = record {
  even = λ n m a h.
      let e = x.even n m a.0 h in
      join (f.put n a.0) (f.put m a.0) _ _ e (y.even _ _ a.1 (along n m e h));
}

even_given : {B : Type 0} {g : Format B} → Even g → (n m : ℕ) (o : Option B) → n % 8 ≡ m % 8 → put_given g n o ≡ put_given g m o
even_given e n m None h = refl
even_given e n m (Some b) h = e.even n m b h

even_depending : {A B : Type 0} {f : Format A} (test : A → Bool) {g : Format B} → Even f → Even g → Even (depending f test g)
unfolding depending
even_depending {f = f} test {g = g} x y = record {
  even = λ n m a h.
      let e = x.even n m a.0 h in
      join (f.put n a.0) (f.put m a.0) _ _ e (even_given y _ _ a.1 (along n m e h));
}

pub even_all : {A : Type 0} {f : Format A} → Even f → (n m : ℕ) (l : List A) → n % 8 ≡ m % 8 → put_all f n l ≡ put_all f m l
unfolding put_all
even_all x n m [] h = refl
even_all {f = f} x n m (a ∷ l) h =
    let e = x.even n m a h in
    join (f.put n a) (f.put m a) _ _ e (even_all x (n + length (f.put n a)) (m + length (f.put m a)) l (along n m e h))

even_times : {A : Type 0} (k : ℕ) {f : Format A} → Even f → Even (times k f)
unfolding times
even_times k x = record { even = even_all x }

even_list : {A : Type 0} (lt : A → A → Bool) {f : Format A} → Even f → Even (list_of lt f)
unfolding list_of field
even_list lt x = record { even = λ n m l h. ap (λ (t : Bits). count.put 0 (length l) ++ t) (even_all x (n + 32) (m + 32) l (omega arith)) }

even_pad : (n m : ℕ) → n % 8 ≡ m % 8 → pad n ≡ pad m
even_pad n m h = let e : gap n ≡ gap m = omega arith in ap (λ (k : ℕ). replicate k 0) e

pub even_whole : {A : Type 0} {f : Format A} → Even f → Even (whole f)
unfolding whole
even_whole {f = f} x = record {
  even = λ n m a h.
      let e = x.even n m a h in
      join (f.put n a) (f.put m a) _ _ e (even_pad _ _ (along n m e h));
}

even_text : Even text
unfolding text
even_text = record { even = λ n m s h. ap (λ (t : Bits). t ++ bits_of s) ((even_whole (even_field 32)).even n m (length s) h) }

-- ---- the fields and records of document 01

even_flag : Even flag
unfolding flag
even_flag = even_via _ _ (even_field 1)

even_code : (lo hi : ℕ) → Even (code lo hi)
unfolding code
even_code lo hi = even_via _ _ (even_field 4)

even_number : Even number
unfolding number
even_number = even_via _ _ (even_field 64)

even_date : Even date
unfolding date
even_date = even_via _ _ (even_field 32)

even_period : Even period
unfolding period time
even_period = even_via _ _ (even_via _ _ (even_field 11) & even_via _ _ (even_field 11))

even_optional : {A : Type 0} {f : Format A} → Even f → Even (optional f)
unfolding optional
even_optional x = even_via _ _ (even_depending _ even_flag x)

even_periods : Even periods
unfolding periods
even_periods = even_list _ even_period

even_dates : Even dates
unfolding dates
even_dates = even_list _ even_date

even_project : Even project
unfolding project
even_project = even_via _ _ (even_text & even_date & even_text & even_field 32 & even_field 32 & even_field 32 & even_field 32 & even_optional even_date)

pub even_calendar : Even calendar
unfolding calendar
even_calendar = even_via _ _ (even_text & even_times 7 even_flag & even_times 7 even_periods & even_dates & even_dates & even_list _ (even_date & even_periods))

even_constraint : Even constraint
unfolding constraint
even_constraint = even_depending _ (even_code 1 7) even_date

even_activity : Even activity
unfolding activity
even_activity =
    even_via _ _
    (even_text & even_text & even_code 0 2 & even_number & even_optional even_number & even_optional (even_field 32) & even_text & even_optional even_text &
    even_optional even_constraint & even_optional even_date & even_optional even_date & even_optional even_date & even_optional even_number & even_code 0 3 &
    even_optional even_number & even_text)

even_link : Even link
unfolding link
even_link = even_via _ _ (even_field 32 & even_field 32 & even_code 0 3 & even_number & even_optional even_number & even_depending _ (even_code 0 2) even_number)

even_resource : Even resource
unfolding resource
even_resource = even_via _ _ (even_text & even_text & even_code 0 2 & even_text & even_number & even_optional even_text & even_optional even_number)

even_assignment : Even assignment
unfolding assignment
even_assignment = even_via _ _ (even_field 32 & even_field 32 & even_number & even_number & even_optional even_number & even_optional even_number)

even_expense : Even expense
unfolding expense
even_expense = even_via _ _ (even_field 32 & even_text & even_number & even_number & even_optional even_number & even_code 0 2)

pub even_body : (k : Counts) → Even (body k)
unfolding body
even_body k =
    even_whole even_project & even_times _ (even_whole even_calendar) & even_times _ (even_whole even_activity) & even_times _ (even_whole even_link) &
    even_times _ (even_whole even_resource) & even_times _ (even_whole even_assignment) & even_times _ (even_whole even_expense)
