-- What becomes of the link elements: each is kept, dangling or across; the kept ones are the links in order, the others are counted, and together
-- they are all. Assumes nothing.
use Rattle.std.specs.Prelude.{if◌then◌else◌, ◌≡◌, Bool, true}
use Rattle.std.proofs.Math.Path.{refl, ap}
use Rattle.std.proofs.Common.{sym, ◌∙◌, true≢false}
use Rattle.std.proofs.Math.Bool.{false}
use mathlib.Core.List.{List, [], ◌∷◌, map}
use Rattle.std.specs.Prelude.{Option, Some, None}
use Prim.Native.Nat.{ℕ, ◌+◌}
use native.Mathlib.Omega.{arith}
use Rattle.std.proofs.Math.ListN.{length, length-map}
use Rattle.definition.specs.Base.{◌>>=◌, ◌or◌, keep, numbered, same}
use Rattle.definition.specs.Ascii.{bytes}
use Rattle.definition.specs.Text.{Text}
use Rattle.definition.specs.Tree.{Element, all}
use Rattle.definition.specs.Field.{text_in, yes_in}
use Rattle.definition.specs.Model.{Link}
use Rattle.definition.specs.Task.{kept_tasks, context_of, row_of}
use Rattle.definition.specs.Link.{Fate, across, link_of, fate_by, fate_of, fates, kept_of, is_dangling, is_across, links}
use Rattle.definition.specs.Read.{project_of, model_of}
use Rattle.laws.specs.Same.{same_refl, same_eq}
use Rattle.theorems.specs.Leads.{At}
use Rattle.theorems.specs.LastRow.{LastAt, RowFound, nowhere, found, last_row}
use Rattle.theorems.specs.KeptTasks.{kept_uid}
use Rattle.theorems.specs.Told.{link_elements, names_one, goes_across, dangles, stays, LastWith, Joins}
use Rattle.theorems.specs.LinkSums.{Becomes, goes, hangs, joins, Pairs, empty, next, pairs_length, pairs_at, keep_alike, fates_sum, flat_pairs}

-- ---- what becomes of one

module _ (root : Element) where
  last_with : (u : Text) (row : ℕ) → LastAt (λ t. same (text_in t "UID" or []) u) (kept_tasks root) row → LastWith (kept_tasks root) (Some u) row
  last_with u row h =
      record {
        task = h.item;
        is = h.is;
        named = kept_uid root row h.item h.is ∙ ap Some (same_eq (text_in h.item "UID" or []) u h.holds);
        last = λ q t r e k. true≢false (sym (same_refl u) ∙ ap (λ (o : Option Text). same (o or []) u) (sym k) ∙ h.last q t r e);
      }

  becomes : (x : ℕ × Element) → Becomes root x (fate_of (context_of root) x.0 x.1)
  unfolding fate_of context_of row_of link_of
  becomes x = by (yes_in x.1 "CrossProject") refl
    where
      named : (u : Text) → text_in x.1 "PredecessorUID" ≡ Some u → goes_across x ≡ false → {o : Option ℕ} → RowFound (λ t. same (text_in t "UID" or []) u) 0 (kept_tasks root) o
          → Becomes root x (fate_by (context_of root) x.0 x.1 o)
      named u e a (nowhere s) = hangs a (ap (names_one (kept_tasks root)) e ∙ s)
      named u e a (found k row r s h) =
          let z : row ≡ k = omega arith in
          let p : LastWith (kept_tasks root) (text_in x.1 "PredecessorUID") row = rw (e, z) (last_with u k h) in
          joins {l = link_of (context_of root) row x.0 x.1} a (ap (names_one (kept_tasks root)) e ∙ s) (record { predecessor = p; successor = refl; whole = refl })

      to : (o : Option Text) → text_in x.1 "PredecessorUID" ≡ o → goes_across x ≡ false → Becomes root x (fate_by (context_of root) x.0 x.1 (o >>= row_of (kept_tasks root)))
      to None e a = hangs a (ap (names_one (kept_tasks root)) e)
      to (Some u) e a = named u e a (last_row (λ t. same (text_in t "UID" or []) u) 0 (kept_tasks root))

      by : (t : Bool) → goes_across x ≡ t → Becomes root x (if t then across else fate_by (context_of root) x.0 x.1 (text_in x.1 "PredecessorUID" >>= row_of (kept_tasks root)))
      by true a = goes a
      by false a = to (text_in x.1 "PredecessorUID") refl a

-- ---- what becomes of all

module _ (root : Element) where
  abbrev fate : ℕ × Element → Fate
  fate x = fate_of (context_of root) x.0 x.1

  is_across_lem : (x : ℕ × Element) → is_across (fate x) ≡ goes_across x
  is_across_lem x = by (becomes root x)
    where
      by : {f : Fate} → Becomes root x f → is_across f ≡ goes_across x
      by (goes a) = sym a
      by (hangs a n) = sym a
      by (joins a n j) = sym a

  is_dangling_lem : (x : ℕ × Element) → is_dangling (fate x) ≡ dangles root x
  is_dangling_lem x = by (becomes root x)
    where
      by : {f : Fate} → Becomes root x f → is_dangling f ≡ dangles root x
      by (goes a) = rw a
      by (hangs a n) = rw (a, n)
      by (joins a n j) = rw (a, n)

  joined : (l : List (ℕ × Element)) → Pairs (Joins root) (keep (stays root) l) (kept_of (map fate l))
  unfolding keep kept_of
  joined [] = empty
  joined (x ∷ l) = by (becomes root x) (joined l)
    where
      by : {f : Fate} → Becomes root x f → Pairs (Joins root) (keep (stays root) l) (kept_of (map fate l)) → Pairs (Joins root) (keep (stays root) (x ∷ l)) (kept_of (f ∷ map fate l))
      by (goes a) h = rw a h
      by (hangs a n) h = rw (a, n) h
      by (joins a n j) h = rw (a, n) (next j h)

  fates_are : fates (context_of root) ≡ map fate (link_elements root)
  unfolding fates context_of
  fates_are = flat_pairs fate (λ (x : ℕ × Element). all x.1 (bytes "PredecessorLink")) (numbered 0 (kept_tasks root))

  pub links_many_lem : length (model_of root).links ≡ length (keep (stays root) (link_elements root))
  unfolding model_of links
  links_many_lem = ap (λ (l : List Fate). length (kept_of l)) fates_are ∙ pairs_length (joined (link_elements root))

  pub link : (k : ℕ) (x : ℕ × Element) (y : Link) → At (keep (stays root) (link_elements root)) k x → At (model_of root).links k y → Joins root x y
  unfolding model_of links
  link k x y e f = pairs_at (joined (link_elements root)) k x y e (rw fates_are at f)

  pub dangling_many : (model_of root).project.dangling ≡ length (keep (dangles root) (link_elements root))
  unfolding model_of project_of
  dangling_many = ap (λ (l : List Fate). length (keep is_dangling l)) fates_are ∙ keep_alike fate is_dangling (dangles root) is_dangling_lem (link_elements root)

  pub across_many : (model_of root).project.across ≡ length (keep goes_across (link_elements root))
  unfolding model_of project_of
  across_many = ap (λ (l : List Fate). length (keep is_across l)) fates_are ∙ keep_alike fate is_across goes_across is_across_lem (link_elements root)

  pub links_sum : length (model_of root).links + ((model_of root).project.dangling + (model_of root).project.across) ≡ length (link_elements root)
  unfolding model_of project_of links
  links_sum = fates_sum (fates (context_of root)) ∙ ap length fates_are ∙ length-map (link_elements root) fate
