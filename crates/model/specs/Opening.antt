-- The decoding pass: the counts and the places between the sections tell whether the bytes decode, and to what. Assumes nothing.
use Rattle.std.specs.Prelude.{if◌then◌else◌, ◌≡◌, refl, Bool, true, false, ◌&&◌, List, [], ◌∷◌, ℕ, ◌-◌, ◌*◌, ◌%◌, length, drop, eqb}
use Rattle.std.proofs.Common.{sym, ap, ◌∙◌, arith, eqb-true, eq-eqb}
use Rattle.std.proofs.lemmas.Bool.{false≢true}
use Rattle.std.specs.Prelude.{Option, Some, None}
use Rattle.laws.specs.Bools.{both}
use Rattle.laws.specs.Options.{bind_assoc, never}
use Rattle.definition.specs.Base.{◌>>=◌}
use Rattle.definition.specs.Bits.{Bits, bits_of}
use Rattle.definition.specs.Format.{Format, whole, times}
use Rattle.definition.specs.Model.{Model}
use Rattle.definition.specs.Pack.{Counts as CountsOf, Body, counts, body, model_from, model, at_end, decode, project, calendar, activity, link, resource, assignment, expense}
use Rattle.bits.specs.Places.{at, Fits}
use Rattle.bits.specs.Reads.{rest, Reads, rest_in, length_rest, chain}
use Rattle.bits.specs.declared.Place.{Place}
use Rattle.model.specs.PerKind.{Sections}
use Rattle.model.specs.PerKind.{Counts}
use Rattle.model.specs.PerKind.{Places}
use Rattle.model.specs.Passes.{Passes, Bytewise, Told, refusing, reading, told, stood, bytewise, bytewise_all, ◌⨾◌}
use Rattle.model.specs.Answers.{counts_at, tails_counts, or_reads, rest_fits}
use Rattle.model.specs.Splits.{split-⊗, read_length}
use Rattle.model.specs.Sections.{byte_at, start, counts_in, Walks, Holds, Decoded, sections_of, sections_by, Opens, byte_place}

-- ---- places

no_bits : (l : Bits) → length l ≡ 0 → l ≡ []
no_bits [] e = refl
no_bits (b ∷ l) e = absurd (omega arith)

rest_length : (s : List ℕ) (q : Place) {l : Bits} → rest s q ≡ Some l → length l ≡ 8 * length s - at q
rest_length s q {l} e =
    let z : Some (drop (at q) (bits_of s)) ≡ Some l = sym (rest_in s q (rest_fits s q e)) ∙ e in
    let w : drop (at q) (bits_of s) ≡ l = cc in
    ap length (sym w) ∙ length_rest s (at q)

-- nothing is left at the end alone
module _ (s : List ℕ) (q : Place) where
  pub end_bit : rest s q ≡ Some [] → q.bit ≡ 0
  end_bit e = let f = rest_fits s q e in let n = rest_length s q e in omega (arith, f.bit, f.ends)

  pub end_byte : rest s q ≡ Some [] → q.byte ≡ length s
  end_byte e = let f = rest_fits s q e in let n = rest_length s q e in omega (arith, f.bit, f.ends)

  pub at_end_lem : q.bit ≡ 0 → q.byte ≡ length s → rest s q ≡ Some []
  at_end_lem b e =
      let f : Fits (length s) q 0 = record { bit = omega arith; ends = omega arith } in
      rest_in s q f ∙ ap Some (no_bits (drop (at q) (bits_of s)) (length_rest s (at q) ∙ omega arith))

-- a place where whole bytes are left
bytewise_place : (s : List ℕ) (q : Place) {l : Bits} → rest s q ≡ Some l → Bytewise s q → q ≡ byte_at q.byte
bytewise_place s q {l} e b = let f = rest_fits s q e in byte_place s q e (omega (arith, rest_length s q e, b l e, f.bit, f.ends))

-- ---- the model

abbrev to_model : Body × Bits → Option (Model × Bits)
to_model b = Some (model_from b.0, b.1)

start_rest : (s : List ℕ) → rest s start ≡ Some (bits_of s)
start_rest s = rest_in s start {w = 0} (record { bit = omega arith; ends = omega arith })

decode_on : {s : List ℕ} {k : CountsOf} {q : Place} → Reads counts s start k q → decode s ≡ at_end (rest s q >>= λ l. (body k).get l >>= to_model)
unfolding decode model
decode_on {s} {k} {q} h =
    let on : CountsOf × Bits → Option (Model × Bits) = λ x. (body x.0).get x.1 >>= to_model in
    ap at_end (sym (ap (λ (o : Option Bits). o >>= λ l. counts.get l >>= on) (start_rest s)) ∙ chain {f = counts} on h)

module _ {s : List ℕ} {n : Counts} {w : Places} (k : (counts_in n, n.next) ≡ counts_at s start) (h : Walks s n w) where
  c : Reads counts s start (counts_in n) n.next
  c = or_reads tails_counts _ s start k

  passes_body : Passes (body (counts_in n)) s n.next w.next
  unfolding body
  passes_body = h.project ⨾ h.calendars ⨾ h.activities ⨾ h.links ⨾ h.resources ⨾ h.assignments ⨾ h.expenses

  -- ---- it does not end where the bytes end

  unended : (rest s w.next ≡ Some [] → ⊥) → decode s ≡ None
  unended n-end = decode_on c ∙ by_body (told passes_body)
    where
      left_over : (b : Body) (l : Bits) → rest s w.next ≡ Some l → at_end {A = Model} (Some (model_from b, l)) ≡ None
      left_over b [] e = absurd (n-end e)
      left_over b (x ∷ l) e = refl

      by_body : Told (body (counts_in n)) s n.next w.next → at_end (rest s n.next >>= λ l. (body (counts_in n)).get l >>= to_model) ≡ None
      by_body (refusing r z) = ap at_end (sym (bind_assoc (rest s n.next) (body (counts_in n)).get to_model) ∙ ap (λ (o : Option (Body × Bits)). o >>= to_model) r.gives)
      by_body (reading b l e r) =
          ap at_end (chain {f = body (counts_in n)} to_model r ∙ ap (λ (o : Option Bits). o >>= λ m. to_model (b, m)) e) ∙ left_over b l e

  open_refused : (rest s w.next ≡ Some [] → ⊥) → Opens s None
  open_refused n-end =
      let e = unended n-end in
      record { number = rw e; model = λ r z. absurd (never_model z); refused = λ z. e }
    where
      never_model : {r : Sections} → None ≡ Some r → ⊥
      never_model z = let y : ◌≡◌ {A = ℕ} 0 1 = cc in omega arith

  -- ---- it does

  bytes_calendars : Bytewise s w.value.calendars
  bytes_calendars = bytewise project h.project

  bytes_activities : Bytewise s w.value.activities
  bytes_activities = bytewise_all calendar n.value.calendars bytes_calendars h.calendars

  bytes_links : Bytewise s w.value.links
  bytes_links = bytewise_all activity n.value.activities bytes_activities h.activities

  bytes_resources : Bytewise s w.value.resources
  bytes_resources = bytewise_all link n.value.links bytes_links h.links

  bytes_assignments : Bytewise s w.value.assignments
  bytes_assignments = bytewise_all resource n.value.resources bytes_resources h.resources

  holds : {A : Type 0} (f : Format A) {p q : Place} {l : Bits} {xs : List A} (k : ℕ) → rest s q ≡ Some l → p ≡ byte_at p.byte → q ≡ byte_at q.byte
      → Reads (times k (whole f)) s p xs q → Holds f s (record { count = k; at = p.byte }) xs q.byte
  holds f {q = q} k e ep eq r = record { count = read_length (whole f) k e r; reads = rw (← ep, ← eq) r; ends = omega (arith, (rest_fits s q e).ends) }

  parts : (b : Body) → rest s w.next ≡ Some [] → Reads (body (counts_in n)) s n.next b w.next → Decoded s (model_from b) (sections_of n w)
  unfolding body
  parts b e r =
      let t0 = split-⊗ e r h.project in
      let t1 = split-⊗ e t0.1 h.calendars in
      let t2 = split-⊗ e t1.1 h.activities in
      let t3 = split-⊗ e t2.1 h.links in
      let t4 = split-⊗ e t3.1 h.resources in
      let t5 = split-⊗ e t4.1 h.assignments in
      let x = stood e h.expenses in
      let a = stood x.1 h.assignments in
      let o = stood a.1 h.resources in
      let l = stood o.1 h.links in
      let v = stood l.1 h.activities in
      let k = stood v.1 h.calendars in
      let pk = bytewise_place s w.value.calendars k.1 bytes_calendars in
      let pv = bytewise_place s w.value.activities v.1 bytes_activities in
      let pl = bytewise_place s w.value.links l.1 bytes_links in
      let po = bytewise_place s w.value.resources o.1 bytes_resources in
      let pa = bytewise_place s w.value.assignments a.1 bytes_assignments in
      let px = bytewise_place s w.value.expenses x.1 (bytewise_all assignment n.value.assignments bytes_assignments h.assignments) in
      let pe : w.next ≡ byte_at w.next.byte = byte_place s w.next e (ap (λ (b : ℕ). b % 8) (end_bit s w.next e)) in
      let pn = end_byte s w.next e in
      record {
        calendars = holds calendar n.value.calendars v.1 pk pv t1.0;
        activities = holds activity n.value.activities l.1 pv pl t2.0;
        links = holds link n.value.links o.1 pl po t3.0;
        resources = holds resource n.value.resources a.1 po pa t4.0;
        assignments = holds assignment n.value.assignments x.1 pa px t5.0;
        expenses = rw (← pn) (holds expense n.value.expenses e px pe t5.1);
      }

  open_done : w.next.bit ≡ 0 → w.next.byte ≡ length s → Opens s (Some (sections_of n w))
  open_done b y = by_body (told passes_body)
    where
      e : rest s w.next ≡ Some []
      e = at_end_lem s w.next b y

      never_none : Some (sections_of n w) ≡ None → ⊥
      never_none z = let y : ◌≡◌ {A = ℕ} 0 1 = cc in omega arith

      by_body : Told (body (counts_in n)) s n.next w.next → Opens s (Some (sections_of n w))
      by_body (refusing r z) = absurd (never (sym z ∙ e))
      by_body (reading b l z r) =
          let d : decode s ≡ Some (model_from b) =
          decode_on c ∙ ap at_end (chain {f = body (counts_in n)} to_model r ∙ ap (λ (o : Option Bits). o >>= λ m. to_model (b, m)) e) in
          record {
            number = rw d;
            model = λ x u. let i : x ≡ sections_of n w = cc in record { model = model_from b; decodes = d; sections = rw i (parts b e r) };
            refused = λ u. absurd (never_none u);
          }

  -- ---- either way

  ended : (eqb w.next.bit 0 && eqb w.next.byte (length s)) ≡ true → rest s w.next ≡ Some []
  ended e =
      let k = both (eqb w.next.bit 0) (eqb w.next.byte (length s)) e in
      at_end_lem s w.next (eqb-true w.next.bit 0 k.0) (eqb-true w.next.byte (length s) k.1)

  pub opened : Opens s (sections_by (length s) n w)
  opened = by_end (eqb w.next.bit 0 && eqb w.next.byte (length s)) refl
    where
      by_end : (t : Bool) → (eqb w.next.bit 0 && eqb w.next.byte (length s)) ≡ t → Opens s (if t then Some (sections_of n w) else None)
      by_end true e =
          let k = both (eqb w.next.bit 0) (eqb w.next.byte (length s)) e in
          open_done (eqb-true w.next.bit 0 k.0) (eqb-true w.next.byte (length s) k.1)
      by_end false e = open_refused (λ z. false≢true (sym e ∙ rw (eq-eqb w.next.bit 0 (end_bit s w.next z), eq-eqb w.next.byte (length s) (end_byte s w.next z))))

  -- the sections of a model that was opened are those between the places, and the activities begin at a whole byte
  pub opened_at : {m : Sections} → Some m ≡ sections_by (length s) n w → (m ≡ sections_of n w) × (w.value.activities ≡ byte_at w.value.activities.byte)
  opened_at {m} = by_end (eqb w.next.bit 0 && eqb w.next.byte (length s)) refl
    where
      never_model : Some m ≡ None → ⊥
      never_model z = let y : ◌≡◌ {A = ℕ} 0 1 = cc in omega arith

      by_end : (t : Bool) → (eqb w.next.bit 0 && eqb w.next.byte (length s)) ≡ t → Some m ≡ (if t then Some (sections_of n w) else None)
          → (m ≡ sections_of n w) × (w.value.activities ≡ byte_at w.value.activities.byte)
      by_end false e k = absurd (never_model k)
      by_end true e k =
          let x = stood (ended e) h.expenses in
          let a = stood x.1 h.assignments in
          let o = stood a.1 h.resources in
          let l = stood o.1 h.links in
          let v = stood l.1 h.activities in
          let z : m ≡ sections_of n w = cc in
          (z, bytewise_place s w.value.activities v.1 bytes_activities)
