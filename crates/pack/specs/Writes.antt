-- Records of a section written one after another, and how many. Assumes nothing.
use Rattle.std.specs.Prelude.{ℕ, ◌*◌, ◌%◌, ◌^◌, ◌≡◌, refl, Bool, true, false, List, length}
use Rattle.std.proofs.Common.{sym, ◌∙◌, true≢false}
use Rattle.definition.specs.Format.{Format, times}
use Rattle.laws.specs.Buf.{▷-full}
use Rattle.bits.specs.Places.{past, inside}
use Rattle.bits.specs.Steps.{Puts, puts, said, view_out}
use Rattle.bits.specs.declared.Place.{Place}
use Rattle.pack.specs.declared.record.Records.{Records}

-- all of them, and their number as 32 bits hold it
pub record Writes {A : Type 0} (f : Format A) (xs : List A) (d : List ℕ) (p : Place) (d' : List ℕ) (r : Records) : Type 0 where
  pub puts : Puts (times (length xs) f) xs d p d' r.next
  pub counts : r.count ≡ length xs % 2 ^ 32

-- no records, at the place past every end
abbrev pub no_records : Records
no_records = record { count = 0; next = past }

-- where a test holds; else nothing is written
pub record WritesIf {A : Type 0} (test : Bool) (f : Format A) (xs : List A) (d : List ℕ) (p : Place) (d' : List ℕ) (r : Records) : Type 0 where
  pub writes : test ≡ true → Writes f xs d p d' r
  pub refuses : test ≡ false → (d' ≡ d) × (r ≡ no_records)

-- ---- laws

-- past the end any value does
pub put_any : {A : Type 0} {f : Format A} {a : A} (b : A) {d : List ℕ} {p : Place} {d' : List ℕ} {q : Place} → inside (length d) p ≡ false → Puts f a d p d' q → Puts f b d p d' q
put_any {f = f} b {d} {p} h x = record { step = said x.step (puts f b) (rw (view_out d p h) (▷-full (8 * length d) _ ∙ sym (▷-full (8 * length d) _))) }

module _ {A : Type 0} {test : Bool} (f : Format A) {xs : List A} {d : List ℕ} {p : Place} where
  pub writes_if : {d' : List ℕ} {r : Records} → test ≡ true → Writes f xs d p d' r → WritesIf test f xs d p d' r
  writes_if e w = record { writes = λ t. w; refuses = λ t. absurd (true≢false (sym e ∙ t)) }

  pub writes_not : {r : Records} → test ≡ false → r ≡ no_records → WritesIf test f xs d p d r
  writes_not e n = record { writes = λ t. absurd (true≢false (sym t ∙ e)); refuses = λ t. (refl, n) }
