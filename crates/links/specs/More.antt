-- Records written behind those of a section that stand there, and counted. Assumes nothing.
use Rattle.std.specs.Prelude.{◌≡◌, ℕ, ◌+◌, ◌%◌, ◌^◌, ◌<◌, List, [], ◌∷◌, ◌++◌, length}
use Rattle.std.proofs.Common.{mod-lt, mod-eq_of_lt, add_assoc, add-zero, zero-add, arith, sym, subst, ◌∙◌, length-append}
use Rattle.std.proofs.Math.Nat.{mod-add-mod}
use Rattle.std.proofs.Math.Path.{ap}
use Rattle.definition.specs.Bits.{Bits}
use Rattle.definition.specs.Format.{Format, times, put_all}
use Rattle.laws.specs.Buf.{◌▷◌, size_of}
use Rattle.laws.specs.Formats.{all_append}
use Rattle.bits.specs.Steps.{Puts, view, said, put_then, put_no, put_more}
use Rattle.bits.specs.declared.Place.{Place}
use Rattle.pack.specs.Writes.{Writes}
use Rattle.pack.specs.declared.record.Records.{Records}

pub record More {A : Type 0} (f : Format A) (xs : List A) (d : List ℕ) (done : Records) (d' : List ℕ) (r : Records) : Type 0 where
  pub puts : (k : ℕ) → Puts (times k f) xs d done.next d' r.next
  pub counts : done.count < 2 ^ 32 → r.count ≡ (done.count + length xs) % 2 ^ 32

-- sums as so many bits hold them
pub sum_none : (m a : ℕ) → a < m → a ≡ (a + 0) % m
sum_none m a h = sym (ap (λ (n : ℕ). n % m) (add-zero a) ∙ mod-eq_of_lt h)

pub sum_both : (m a x y b c : ℕ) → a < m → (a < m → b ≡ (a + x) % m) → (b < m → c ≡ (b + y) % m) → c ≡ (a + (x + y)) % m
sum_both m a x y b c h i j =
    let k : b < m = rw (i h) (mod-lt (a + x) (omega arith)) in
    j k ∙ ap (λ (n : ℕ). (n + y) % m) (i h) ∙ mod-add-mod (a + x) m y ∙ ap (λ (n : ℕ). n % m) (add_assoc a x y)

module _ {A : Type 0} {f : Format A} where
  pub more_none : (d : List ℕ) (done : Records) → More f [] d done d done
  more_none d done = record { puts = λ k. put_no k f d done.next; counts = sum_none (2 ^ 32) done.count }

  module _ {d : List ℕ} {done : Records} {d' : List ℕ} {r : Records} where
    -- one more
    pub more_one : {x : A} → Puts f x d done.next d' r.next → r.count ≡ (done.count + 1) % 2 ^ 32 → More f (x ∷ []) d done d' r
    more_one h i = record { puts = λ k. put_more k (put_no k f d done.next) h; counts = λ z. i }

    -- the same records, said otherwise
    pub more_as : {xs ys : List A} → xs ≡ ys → More f xs d done d' r → More f ys d done d' r
    more_as e h = subst (λ zs. More f zs d done d' r) e h

    pub more_both : {xs ys : List A} {d'' : List ℕ} {r' : Records} → More f xs d done d' r → More f ys d' r d'' r' → More f (xs ++ ys) d done d'' r'
    unfolding times
    more_both {xs} {ys} {r' = r'} h i = record {
      puts = λ k. record {
        step = said (put_then (times k f) xs (λ n. put_all f n ys) (h.puts k).step (i.puts k).step) _ (ap (λ (l : Bits). view d done.next ▷ l) (sym (all_append f (size_of (view d done.next)) xs ys)));
      };
      counts = λ z. sum_both (2 ^ 32) done.count (length xs) (length ys) r.count r'.count z h.counts i.counts ∙ ap (λ (n : ℕ). (done.count + n) % 2 ^ 32) (sym (length-append xs ys));
    }

  -- all of them, from none on
  pub more_all : {xs : List A} {d : List ℕ} {p : Place} {d' : List ℕ} {r : Records} → More f xs d (record { count = 0; next = p }) d' r → Writes f xs d p d' r
  more_all {xs} h = record { puts = h.puts (length xs); counts = h.counts (omega arith) ∙ ap (λ (n : ℕ). n % 2 ^ 32) (zero-add (length xs)) }

-- ---- what is left of a walk that writes: once that is written, all is

pub record Left {A : Type 0} (f : Format A) (all rest : List A) (d : List ℕ) (done : Records) (d' : List ℕ) (r : Records) : Type 0 where
  pub go : {d'' : List ℕ} {r' : Records} → More f rest d' r d'' r' → More f all d done d'' r'

module _ {A : Type 0} {f : Format A} {d : List ℕ} {done : Records} where
  pub left_all : {all rest : List A} → all ≡ rest → Left f all rest d done d done
  left_all e = record { go = more_as (sym e) }

  module _ {all rest : List A} {d' : List ℕ} {r : Records} (l : Left f all rest d done d' r) where
    pub left_next : {xs ys : List A} {d'' : List ℕ} {r' : Records} → rest ≡ xs ++ ys → More f xs d' r d'' r' → Left f all ys d done d'' r'
    left_next e h = record { go = λ i. l.go (more_as (sym e) (more_both h i)) }

    pub left_end : rest ≡ [] → More f all d done d' r
    left_end e = l.go (more_as (sym e) (more_none d' r))
