-- The packed model: what a planner expects of a model's parts fits its fields, a model that fits is decoded from its bytes, and bytes that
-- decode are those of the model that they decode to. Assumes nothing.
use Rattle.std.specs.Prelude.{◌≡◌, refl, ◌↔◌, List, [], ◌∷◌, ◌++◌, ℕ, ◌+◌, ◌/◌, ◌%◌, length}
use Rattle.std.proofs.Common.{sym, ap, ◌∙◌, append-nil, arith, length-append}
use Rattle.std.specs.Prelude.{Option, Some, None}
use Rattle.definition.specs.Bits.{Bits, bits_of, bytes_of}
use Rattle.definition.specs.Format.{field, ◌⊗◌, via}
use Rattle.definition.specs.Model.{Model}
use Rattle.definition.specs.Pack.{Counts, counts, counts_of, Body, body, body_of, model_from, model, encode, at_end, decode}
use Rattle.laws.specs.Options.{never}
use Rattle.laws.specs.Each.{Each}
use Rattle.laws.specs.Bits.{Bytes, length_enc, bits_binary, length_bits, bytes_small, whole_bits, whole_bytes}
use Rattle.laws.specs.Formats.{got, Ends, Good, regard, lead, good_lead, Both, ◌&◌, Times, good_times, good_whole, good_count, fills_body}
use Rattle.laws.specs.FitRecords.{good_named, IsCount}
pub use Rattle.laws.specs.FitRecords.{FitsProject, FitsCalendar, FitsActivity, FitsLink, FitsResource, FitsAssignment, FitsExpense}
pub use Rattle.laws.specs.FitRecords.{good_resource, good_assignment, good_expense}
pub use Rattle.laws.proofs.FitRecords.{good_project, good_calendar, good_activity, good_link}

-- ---- the whole

-- so many that a count holds their number, and each fits
abbrev pub Rows : {A : Type 0} → (A → Type 0) → List A → Type 0
Rows F l = IsCount (length l) × Each F l

pub record FitsModel (m : Model) : Type 0 where
  pub project : FitsProject m.project
  pub calendars : Rows FitsCalendar m.calendars
  pub activities : Rows FitsActivity m.activities
  pub links : Rows FitsLink m.links
  pub resources : Rows FitsResource m.resources
  pub assignments : Rows FitsAssignment m.assignments
  pub expenses : Rows FitsExpense m.expenses

abbrev FitsBody : Counts → Body → Type 0
FitsBody k =
    Both FitsProject (Both (Times FitsCalendar k.0) (Both (Times FitsActivity k.1.0) (Both (Times FitsLink k.1.1.0)
    (Both (Times FitsResource k.1.1.1.0) (Both (Times FitsAssignment k.1.1.1.1.0) (Times FitsExpense k.1.1.1.1.1))))))

good_body : (k : Counts) → Good (body k) (FitsBody k)
unfolding body
good_body k =
    good_whole good_project & good_times k.0 (good_whole good_calendar) & good_times k.1.0 (good_whole good_activity) &
    good_times k.1.1.0 (good_whole good_link) & good_times k.1.1.1.0 (good_whole good_resource) &
    good_times k.1.1.1.1.0 (good_whole good_assignment) & good_times k.1.1.1.1.1 (good_whole good_expense)

counts_length : (n : ℕ) (k : Counts) → length (counts.put n k) ≡ 192
unfolding ◌⊗◌ field
counts_length n k = simp (length-append, length_enc)

counts_place : (n : ℕ) (k : Counts) → n % 8 ≡ (n + length (counts.put n k)) % 8
counts_place n k = omega (arith, counts_length n k)

counts_said : (k : Counts) (m : Model) → FitsBody k (body_of m) → counts_of m ≡ k
counts_said k m (p, (c, (a, (l, (r, (s, e)))))) = λ i. (c.many i, (a.many i, (l.many i, (r.many i, (s.many i, e.many i)))))

abbrev IsCounts : Counts → Type 0
IsCounts = Both IsCount (Both IsCount (Both IsCount (Both IsCount (Both IsCount IsCount))))

good_counts : Good counts IsCounts
good_counts = good_count & good_count & good_count & good_count & good_count & good_count

abbrev Parts : Model → Type 0
Parts m = IsCounts (counts_of m) × FitsBody (counts_of m) (body_of m)

times_rows : {A : Type 0} {F : A → Type 0} {l : List A} → Each F l → Times F (length l) l
times_rows h = record { many = refl; each = h }

parts_fit : (m : Model) → Parts m → FitsModel m
parts_fit m ((kc, (ka, (kl, (kr, (ks, ke))))), (p, (c, (a, (l, (r, (s, e))))))) = record {
  project = p;
  calendars = (kc, c.each);
  activities = (ka, a.each);
  links = (kl, l.each);
  resources = (kr, r.each);
  assignments = (ks, s.each);
  expenses = (ke, e.each);
}

fit_parts : (m : Model) → FitsModel m → Parts m
fit_parts m h =
    let (kc, c) = h.calendars in
    let (ka, a) = h.activities in
    let (kl, l) = h.links in
    let (kr, r) = h.resources in
    let (ks, s) = h.assignments in
    let (ke, e) = h.expenses in (
      (kc, (ka, (kl, (kr, (ks, ke))))),
      (h.project, (times_rows c, (times_rows a, (times_rows l, (times_rows r, (times_rows s, times_rows e)))))),
    )

pub good_model : Good model FitsModel
unfolding model lead via
good_model =
    regard parts_fit fit_parts
    (good_lead counts_of (λ n k. n) {G = λ k m. FitsBody k (body_of m)} counts_place counts_said good_counts
    (λ k. good_named model_from body_of (λ m. refl) (λ b. refl) (good_body k)))

-- a model fills whole bytes
model_whole : (m : Model) → length (model.put 0 m) % 8 ≡ 0
unfolding model
model_whole m =
    let k = counts_of m in
    let h = (fills_body k).ends 0 (body_of m) (omega arith) in
    rw length-append (omega (arith, counts_length 0 k))

pub encode_bytes : (m : Model) → Bytes (encode m)
unfolding encode
encode_bytes m = bytes_small (length (model.put 0 m) / 8) (good_model.binary 0 m) (omega arith)

-- what fits is decoded from its bytes
pub decode_encode : (m : Model) → FitsModel m → decode (encode m) ≡ Some m
unfolding decode encode
decode_encode m h =
    let l = model.put 0 m in
    let e = append-nil l in
    let k : Ends 0 (l ++ []) = rw append-nil (omega (arith, model_whole m)) in
    let r : model.get l ≡ Some (m, []) = rw e at (good_model.back 0 m [] h k) in
    rw (whole_bits (good_model.binary 0 m) (model_whole m), r)

at_end_lem : {A : Type 0} (o : Option (A × Bits)) (a : A) → at_end o ≡ Some a → o ≡ Some (a, [])
at_end_lem None a h = never h
at_end_lem {A} (Some (x, [])) a h = got (λ a. ◌≡◌ {A = Option (A × Bits)} (Some (x, [])) (Some (a, []))) h refl
at_end_lem (Some (x, (b ∷ l))) a h = never h

-- what is decoded fits, and has these bytes
pub encode_decode : (s : List ℕ) → Bytes s → (m : Model) → decode s ≡ Some m → (encode m ≡ s) × FitsModel m
unfolding decode encode
encode_decode s b m h =
    let l = bits_of s in
    let k : Ends 0 l = rw length_bits (omega arith) in
    let (e, f) = good_model.exact 0 l (m, []) (bits_binary s) k (at_end_lem (model.get l) m h) in
    let r : l ≡ model.put 0 m = e ∙ append-nil (model.put 0 m) in
    (ap (λ (t : Bits). bytes_of t) (sym r) ∙ whole_bytes b, f)

-- so the bytes that decode to a model are its own and no others
pub decodes_iff : (s : List ℕ) → Bytes s → (m : Model) → (decode s ≡ Some m) ↔ ((encode m ≡ s) × FitsModel m)
decodes_iff s b m = (encode_decode s b m, λ h. ap decode (sym h.0) ∙ decode_encode m h.1)
