-- The records of a section, one after another: none, one more, and the turns of a loop over elements. Assumes nothing.
use Rattle.std.proofs.Common.{◌≡◌, ℕ, ◌+◌, ◌*◌, ◌%◌, ◌^◌, Bool, true, false, ◌||◌, List, ◌∷◌, ◌++◌, length, sym, refl, ap, ◌∙◌, subst, true≢false, append_assoc, append-nil, length-append, []}
use native.Mathlib.Nat.{mod-add-mod}
use lib.Pow.{mod-mod-pow}
use Rattle.definition.specs.Tree.{Element}
use Rattle.definition.specs.Format.{Format, times}
use Rattle.laws.specs.Buf.{full, ▷-full}
pub use Rattle.bits.specs.Round.{put_inside as put_began}
use Rattle.bits.specs.Steps.{put_times, Puts, puts, view, view_out, ◌⨾◌, said, stays, put_same, put_no, put_more}
use Rattle.bits.specs.Places.{inside}
use Rattle.bits.specs.declared.Place.{Place}
use Rattle.pack.specs.Writes.{Writes}
use Rattle.pack.specs.declared.record.Records.{Records}
use Rattle.assignments.specs.declared.section.Done.{Done}
use Rattle.assignments.specs.Section.{WritesIn, Wrote, Goes}

-- ---- past the end

-- nothing is written
put_out : {A : Type 0} {f : Format A} {d : List ℕ} {p : Place} → inside (length d) p ≡ false → (b : A) → Puts f b d p d p
put_out {d = d} {p} o b = record { step = stays _ (rw (view_out d p o) (▷-full (8 * length d) _)) }

-- the records before are all that is said
put_still : {A B : Type 0} {g : Format A} {a : A} {f : Format B} {b : B} {d : List ℕ} {p : Place} {d1 : List ℕ} {q : Place} {d2 : List ℕ} {r : Place} → inside (length d1) q ≡ false
    → Puts g a d p d1 q → Puts f b d1 q d2 r → Puts g a d p d2 r
put_still {g = g} {a} {f} {b} {d} {p} {d1} {q} o x y =
    let e : puts g a (view d p) ≡ full (8 * length d1) = sym x.step.bits ∙ view_out d1 q o in
    record { step = said (x.step ⨾ y.step) _ (ap (puts f b) e ∙ ▷-full (8 * length d1) _ ∙ sym e) }

put_outs : {A : Type 0} (k : ℕ) (f : Format A) {xs : List A} {d : List ℕ} {p : Place} {d' : List ℕ} {q : Place} → inside (length d') q ≡ false → Puts (times k f) xs d p d' q
    → (ys : List A) → Puts (times k f) (xs ++ ys) d p d' q
put_outs k f {xs} o x [] = put_same (sym (append-nil xs)) x
put_outs k f {xs} o x (y ∷ ys) = put_same (append_assoc xs (y ∷ []) ys) (put_outs k f o (put_more k x (put_out o y)) ys)

-- ---- records one after another

module _ {A : Type 0} {f : Format A} {sure : Bool} {d : List ℕ} {p : Place} where
  -- none
  pub wrote_none : Wrote f sure [] d p d (record { count = 0; next = p })
  wrote_none = record { puts = put_no 0 f d p; counts = λ h. refl }

  -- one more
  pub wrote_more : {xs : List A} {x : A} {d1 : List ℕ} {r1 : Done} {d2 : List ℕ} {q : Place} {r2 : Done} → Wrote f sure xs d p d1 r1 → Puts f x d1 r1.next d2 q
      → (r2.count ≡ (r1.count + 1) % 2 ^ 64) × (r2.next ≡ q) → Wrote f sure (xs ++ (x ∷ [])) d p d2 r2
  wrote_more {xs} {x} {d1} {r1} {d2} {q} {r2} w h (c, n) =
      record { puts = rw n (put_times (length xs) _ f (put_more (length xs) w.puts h)); counts = λ s. c ∙ number (was sure s) }
    where
      was : (sure : Bool) → (sure || inside (length d2) r2.next) ≡ true → (sure || inside (length d1) r1.next) ≡ true
      was true s = refl
      was false s = put_began h (rw n at s)

      number : (sure || inside (length d1) r1.next) ≡ true → (r1.count + 1) % 2 ^ 64 ≡ length (xs ++ (x ∷ [])) % 2 ^ 64
      number s = rw (w.counts s, length-append xs (x ∷ [])) (mod-add-mod (length xs) (2 ^ 64) 1)

module _ {A : Type 0} {f : Format A} {d : List ℕ} {p : Place} where
  -- all
  pub writes : {xs : List A} {d' : List ℕ} {r : Done} {w : Records} → Wrote f true xs d p d' r → (w.count ≡ r.count % 2 ^ 32) × (w.next ≡ r.next) → Writes f xs d p d' w
  writes {xs} w (c, n) = record { puts = rw n w.puts; counts = c ∙ rw (w.counts refl) (mod-mod-pow (length xs) 32 32) }

  pub writes_in : {xs : List A} {d' : List ℕ} {r : Done} {w : Records} → Wrote f false xs d p d' r → (w.count ≡ r.count % 2 ^ 32) × (w.next ≡ r.next) → WritesIn f xs d p d' w
  writes_in {xs} {r = r} w (c, n) = record { puts = rw n w.puts; counts = λ h. c ∙ rw (w.counts (rw n at h)) (mod-mod-pow (length xs) 32 32) }

-- the same records, said otherwise
pub wrote_as : {A : Type 0} {f : Format A} {sure : Bool} {xs ys : List A} {d : List ℕ} {p : Place} {d' : List ℕ} {r : Done} → xs ≡ ys → Wrote f sure xs d p d' r → Wrote f sure ys d p d' r
wrote_as {f = f} {sure} {d = d} {p = p} {d' = d'} {r = r} e w = subst (λ zs. Wrote f sure zs d p d' r) e w

-- past the end: whatever more was to be written, whether one was or not
module _ {A : Type 0} {f : Format A} {xs : List A} {d : List ℕ} {p : Place} {d1 : List ℕ} {r1 : Done} (o : inside (length d1) r1.next ≡ false) (w : Wrote f false xs d p d1 r1) (ys : List A) where
  pub wrote_still : Wrote f false (xs ++ ys) d p d1 r1
  wrote_still = record { puts = put_times (length xs) _ f (put_outs (length xs) f o w.puts ys); counts = λ h. absurd (true≢false (sym h ∙ o)) }

  pub wrote_past : {x : A} {d2 : List ℕ} {q : Place} {r2 : Done} → Puts f x d1 r1.next d2 q → r2.next ≡ q → Wrote f false (xs ++ ys) d p d2 r2
  wrote_past h n = record {
    puts = rw n (put_still o wrote_still.puts h);
    counts = λ s. absurd (true≢false (sym (put_began h (rw n at s)) ∙ o));
  }

-- ---- a loop over elements: some records are done, and with those of the elements that are left they are all

pub record Going {A : Type 0} (f : Format A) (sure : Bool) (after : List A → List Element → List A) (Fine : List A → Type 0) (es fs : List Element) (d : List ℕ) (p : Place) (d' : List ℕ) (r : Done) : Type 0 where
  pub done : List A
  pub wrote : Wrote f sure done d p d' r
  pub fine : Fine done
  pub leads : after done fs ≡ after [] es

module _ {A : Type 0} {f : Format A} {sure : Bool} {after : List A → List Element → List A} {es : List Element} {d : List ℕ} {p : Place} where
  pub going_all : {fs : List Element} → fs ≡ es → {Fine : List A → Type 0} → Fine [] → Going f sure after Fine es fs d p d (record { count = 0; next = p })
  going_all e h = record { done = []; wrote = wrote_none; fine = h; leads = ap (after []) e }

  pub going_more : {Fine : List A → Type 0} {Ok : List ℕ → List A → Type 0} {G : List ℕ → List A → List A} {d1 : List ℕ} {r1 : Done} {d2 : List ℕ} {r2 : Done} {e : Element} {fs : List Element}
      → Going f sure after Fine es (e ∷ fs) d p d1 r1 → Goes f sure p Ok G d1 r1 d2 r2 → ((xs : List A) → Fine xs → Ok d xs) → ((xs : List A) → after xs (e ∷ fs) ≡ after (G d xs) fs)
      → {Fine' : List A → Type 0} → ((xs : List A) → Fine xs → Fine' (G d xs)) → Going f sure after Fine' es fs d p d2 r2
  going_more {G = G} g h ok turn keeps =
      record {
        done = G d g.done;
        wrote = h.goes d g.done (ok g.done g.fine) g.wrote;
        fine = keeps g.done g.fine;
        leads = sym (turn g.done) ∙ g.leads;
      }

  -- none is left
  pub going_end : {Fine : List A → Type 0} {fs : List Element} {d' : List ℕ} {r : Done} → Going f sure after Fine es fs d p d' r → fs ≡ [] → ((xs : List A) → after xs [] ≡ xs) → Wrote f sure (after [] es) d p d' r
  going_end g e ends = wrote_as (sym (ends g.done) ∙ ap (after g.done) (sym e) ∙ g.leads) g.wrote
