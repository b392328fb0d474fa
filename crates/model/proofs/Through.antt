-- What the places make together that the readers of `past_project` and `past_records` answer, and the fields that a reader takes. Assumes nothing.
use Rattle.std.specs.Prelude.{◌≡◌, ℕ, List, ◌<◌, ◌≤◌}
use Rattle.std.proofs.Common.{◌∙◌, ap, refl, subst, lt-ltb, le-ltb}
use Rattle.bits.specs.Places.{past}
use Rattle.bits.specs.declared.Field.{Field}
use Rattle.bits.specs.declared.Place.{Place}
use Rattle.bits.specs.Reads.{taken_at}
use Rattle.reader.specs.declared.Reader.{Reader}
use Rattle.reader.specs.Read.{took, moved_by}
use Rattle.model.specs.Lax.{like_times}
use Rattle.model.specs.Passes.{pass_like}
use Rattle.model.specs.Parts.{strict_calendars, strict_links, strict_resources, strict_assignments, strict_expenses}
use Rattle.model.specs.Sections.{start, counts_by, PassesProject, PassesRecords, Heads, Behind}
use Rattle.model.specs.Answers.{counts_at}
use Rattle.model.proofs.Single.{counts_are}
use Rattle.model.specs.PerKind.{Counts}
use Rattle.model.specs.declared.Head.{Head}
use Rattle.model.specs.declared.records.Kind.TheVariants.{Calendars, Links, Resources, Assignments, Expenses}

-- ---- a reader further on

module _ (φ : List ℕ → Place → Place → Type 0) (s : List ℕ) (r q : Reader) (h : moved_by φ r q) (e : r.model.now ≡ s) where
  -- it reads the same bytes
  pub same_bytes : q.model.now ≡ s
  same_bytes = ap (λ (x : Reader). x.model.now) h.0 ∙ e

  pub passed : φ s r.place q.place
  passed = subst (λ (x : List ℕ). φ x r.place q.place) e h.1

-- ---- a field that a reader takes

abbrev pub field_in : Field ℕ Reader → Field ℕ Place
field_in t = record { value = t.value; next = t.next.place }

module _ (s : List ℕ) (w : ℕ) (r : Reader) (t : Field ℕ Reader) (h : t ≡ took r w) (e : r.model.now ≡ s) where
  pub taken_bytes : t.next.model.now ≡ s
  taken_bytes = ap (λ (x : Field ℕ Reader). x.next.model.now) h ∙ e

  pub taken_field : field_in t ≡ taken_at s r.place w
  taken_field = ap field_in h ∙ ap (λ (x : List ℕ). taken_at x r.place w) e

-- ---- six of them in a row, from the first bit on

module _ (s : List ℕ) (r : Reader) (e : r.model.now ≡ s) (p : r.place ≡ start) (a b c d f g : Field ℕ Reader)
    (ha : a ≡ took r 32) (hb : b ≡ took a.next 32) (hc : c ≡ took b.next 32) (hd : d ≡ took c.next 32) (hf : f ≡ took d.next 32) (hg : g ≡ took f.next 32) where
  a_same : a.next.model.now ≡ s
  a_same = taken_bytes s 32 r a ha e

  b_same : b.next.model.now ≡ s
  b_same = taken_bytes s 32 a.next b hb a_same

  c_same : c.next.model.now ≡ s
  c_same = taken_bytes s 32 b.next c hc b_same

  d_same : d.next.model.now ≡ s
  d_same = taken_bytes s 32 c.next d hd c_same

  f_same : f.next.model.now ≡ s
  f_same = taken_bytes s 32 d.next f hf d_same

  a_is : field_in a ≡ taken_at s start 32
  a_is = taken_field s 32 r a ha e ∙ ap (λ (q : Place). taken_at s q 32) p

  b_is : field_in b ≡ taken_at s a.next.place 32
  b_is = taken_field s 32 a.next b hb a_same

  c_is : field_in c ≡ taken_at s b.next.place 32
  c_is = taken_field s 32 b.next c hc b_same

  d_is : field_in d ≡ taken_at s c.next.place 32
  d_is = taken_field s 32 c.next d hd c_same

  f_is : field_in f ≡ taken_at s d.next.place 32
  f_is = taken_field s 32 d.next f hf d_same

  g_is : field_in g ≡ taken_at s f.next.place 32
  g_is = taken_field s 32 f.next g hg f_same

  six_are : counts_by (a.value, (b.value, (c.value, (d.value, (f.value, g.value))))) g.next.place ≡ counts_at s start
  six_are = counts_are s a_is b_is c_is d_is f_is g_is

  pub six_cut : 7 < g.next.place.bit → ((0, (0, (0, (0, (0, 0))))), past) ≡ counts_at s start
  six_cut h = rw (lt-ltb 7 g.next.place.bit h) at six_are

  pub six_given : g.next.place.bit ≤ 7 → ((a.value, (b.value, (c.value, (d.value, (f.value, g.value))))), g.next.place) ≡ counts_at s start
  six_given h = rw (le-ltb 7 g.next.place.bit h) at six_are

-- ---- what the places make

pub heads : {s : List ℕ} {n : Counts} {p q : Place} → PassesProject s n.next p → PassesRecords Calendars n.value.calendars s p q → Heads s n (record { calendars = p; activities = q })
heads h k = record { project = h; calendars = pass_like (like_times _ strict_calendars) k }

pub behind : {s : List ℕ} {n : Counts} {h : Head} {l p q r end : Place} → PassesRecords Links n.value.links s l p → PassesRecords Resources n.value.resources s p q → PassesRecords Assignments n.value.assignments s q r → PassesRecords Expenses n.value.expenses s r end
    → Behind s n h l (record { value = record { calendars = h.calendars; activities = h.activities; links = l; resources = p; assignments = q; expenses = r }; next = end })
behind a b c d = record {
  calendars_at = refl;
  activities_at = refl;
  links_at = refl;
  links = pass_like (like_times _ strict_links) a;
  resources = pass_like (like_times _ strict_resources) b;
  assignments = pass_like (like_times _ strict_assignments) c;
  expenses = pass_like (like_times _ strict_expenses) d;
}
