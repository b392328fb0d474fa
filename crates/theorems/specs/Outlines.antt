-- The outline's laws. For any parents: no row stands twice and each is one of the activities', so there are at most as many rows as activities.
-- For a model that passes the check: each activity stands once, after its parent and one level below it, or at level 1 if it has none.
-- Assumes nothing.
use Rattle.std.specs.Prelude.{◌≡◌, Bool, ◌&&◌, not, ltb, get_or}
use Rattle.std.proofs.Math.Path.{refl, ap}
use Rattle.std.proofs.Common.{sym, ◌∙◌, ltb-true, ltb-false, eqb-true, lt-ltb, ne_eqb}
use Rattle.std.proofs.Math.Bool.{true, false}
use mathlib.Core.List.{List, [], ◌∷◌, ◌++◌, map, flat_map, append_assoc}
use Rattle.std.specs.Prelude.{Option, Some, None}
use Prim.Native.Nat.{ℕ, zero, suc, ◌+◌, ◌-◌, ◌<◌}
use native.Mathlib.Omega.{arith}
use Rattle.std.proofs.Math.Dec.{eqb}
use Rattle.std.proofs.Math.ListN.{length}
use Rattle.std.proofs.lemmas.List.{length-map}
use Rattle.definition.specs.Base.{every?, numbered, same}
use Rattle.definition.specs.Model.{Activity, Model}
use Rattle.definition.specs.Check.{distinct, if_given, is_calendar, activity_right, keeps_list}
use Rattle.definition.specs.Format.{bit}
use Rattle.definition.specs.Outline.{parent_in, parent_at, top_rows, child_rows, under, outline_of, outline}
use Rattle.laws.specs.Bools.{and_left, and_right}
use Rattle.laws.specs.Options.{never}
use Rattle.laws.specs.Outlines.{times, stands, stands_append, all, child_times, top_none, top_times, at_top, as_parent, no_levels}
-- ---- for any parents

pub use Rattle.laws.specs.Outlines.{outline_once, outline_in}
pub use Rattle.laws.proofs.Outlines.{outline_length}

-- ---- where a row stands

-- the row at a level
pub record At (c level : ℕ) (l : List (ℕ × ℕ)) : Type 0 where
  pub before : List (ℕ × ℕ)
  pub behind : List (ℕ × ℕ)
  pub split : l ≡ before ++ ((c, level) ∷ behind)

-- the row after its parent and one level below it
pub record After (p c : ℕ) (l : List (ℕ × ℕ)) : Type 0 where
  pub level : ℕ
  pub before : List (ℕ × ℕ)
  pub between : List (ℕ × ℕ)
  pub behind : List (ℕ × ℕ)
  pub split : l ≡ before ++ ((p, level) ∷ (between ++ ((c, suc level) ∷ behind)))

at_front : {c level : ℕ} (a : List (ℕ × ℕ)) {l : List (ℕ × ℕ)} → At c level l → At c level (a ++ l)
at_front {c} {level} a h =
    record {
      before = a ++ h.before;
      behind = h.behind;
      split = ap (λ (l : List (ℕ × ℕ)). a ++ l) h.split ∙ sym (append_assoc a h.before ((c, level) ∷ h.behind));
    }

at_back : {c level : ℕ} {l : List (ℕ × ℕ)} (b : List (ℕ × ℕ)) → At c level l → At c level (l ++ b)
at_back {c} {level} b h =
    record {
      before = h.before;
      behind = h.behind ++ b;
      split = ap (λ (l : List (ℕ × ℕ)). l ++ b) h.split ∙ append_assoc h.before ((c, level) ∷ h.behind) b;
    }

after_front : {p c : ℕ} (a : List (ℕ × ℕ)) {l : List (ℕ × ℕ)} → After p c l → After p c (a ++ l)
after_front {p} {c} a h =
    record {
      level = h.level;
      before = a ++ h.before;
      between = h.between;
      behind = h.behind;
      split =
          ap (λ (l : List (ℕ × ℕ)). a ++ l) h.split
          ∙ sym (append_assoc a h.before ((p, h.level) ∷ (h.between ++ ((c, suc h.level) ∷ h.behind))));
    }

after_back : {p c : ℕ} {l : List (ℕ × ℕ)} (b : List (ℕ × ℕ)) → After p c l → After p c (l ++ b)
after_back {p} {c} b h =
    record {
      level = h.level;
      before = h.before;
      between = h.between;
      behind = h.behind ++ b;
      split =
          ap (λ (l : List (ℕ × ℕ)). l ++ b) h.split
          ∙ append_assoc h.before ((p, h.level) ∷ (h.between ++ ((c, suc h.level) ∷ h.behind))) b
          ∙ ap (λ (l : List (ℕ × ℕ)). h.before ++ ((p, h.level) ∷ l)) (append_assoc h.between ((c, suc h.level) ∷ h.behind) b);
    }

-- the row itself is one of some rows, or it stands below its parent
data Found (p c level : ℕ) (rows : List ℕ) (l : List (ℕ × ℕ)) : Type 0 where
  among : 0 < times c rows → At c level l → Found p c level rows l
  below : After p c l → Found p c level rows l

one_true : (t : Bool) → 0 < bit t → t ≡ true
one_true true h = refl
one_true false h = absurd (omega arith)

module _ (ps : List (Option ℕ)) where
  -- one of some rows
  at_level : (c k level : ℕ) (l : List ℕ) → 0 < times c l → At c level (all ps (suc k) level l)
  unfolding times flat_map under
  at_level c k level [] h = absurd (omega arith)
  at_level c k level (x ∷ l) h = go (eqb c x) refl (at_level c k level l)
    where
      go : (t : Bool) → eqb c x ≡ t → (0 < times c l → At c level (all ps (suc k) level l)) → At c level (all ps (suc k) level (x ∷ l))
      go true e f =
          record {
            before = [];
            behind = all ps k (suc level) (child_rows ps x) ++ all ps (suc k) level l;
            split = ap (λ (r : ℕ). (r, level) ∷ (all ps k (suc level) (child_rows ps x) ++ all ps (suc k) level l)) (sym (eqb-true c x e));
          }
      go false e f = at_front ((x, level) ∷ all ps k (suc level) (child_rows ps x)) (f (omega (arith, ap bit e)))

  module _ (p c : ℕ) (parent : parent_at ps c ≡ Some p) where
    -- a row with all below it
    under_row : (k level x : ℕ) → ((l : List ℕ) → 0 < stands c (all ps k (suc level) l) → Found p c (suc level) l (all ps k (suc level) l))
        → 0 < stands c (all ps k (suc level) (child_rows ps x)) → After p c ((x, level) ∷ all ps k (suc level) (child_rows ps x))
    under_row k level x ih h = go (all ps k (suc level) (child_rows ps x)) (ih (child_rows ps x) h)
      where
        go : (l : List (ℕ × ℕ)) → Found p c (suc level) (child_rows ps x) l → After p c ((x, level) ∷ l)
        go l (among i a) =
            let e : p ≡ x = eqb-true p x (one_true (eqb p x) (omega (arith, child_times ps c p x parent))) in
            record {
              level = level;
              before = [];
              between = a.before;
              behind = a.behind;
              split = ap (λ (m : List (ℕ × ℕ)). (x, level) ∷ m) a.split ∙ ap (λ (r : ℕ). (r, level) ∷ (a.before ++ ((c, suc level) ∷ a.behind))) (sym e);
            }
        go l (below a) = after_front ((x, level) ∷ []) a

    found_one : (k level : ℕ) → ((l : List ℕ) → 0 < stands c (all ps k (suc level) l) → Found p c (suc level) l (all ps k (suc level) l))
        → (l : List ℕ) → 0 < stands c (all ps (suc k) level l) → Found p c level l (all ps (suc k) level l)
    unfolding times stands flat_map under
    found_one k level ih [] h = absurd (omega arith)
    found_one k level ih (x ∷ l) h = go (eqb c x) refl (ltb 0 (stands c own)) refl (found_one k level ih l)
      where
        own : List (ℕ × ℕ)
        own = all ps k (suc level) (child_rows ps x)

        others : List (ℕ × ℕ)
        others = all ps (suc k) level l

        go : (t : Bool) → eqb c x ≡ t → (u : Bool) → ltb 0 (stands c own) ≡ u → (0 < stands c others → Found p c level l others)
            → Found p c level (x ∷ l) (((x, level) ∷ own) ++ others)
        go true e true f i = among (omega (arith, ap bit e)) (at_level c k level (x ∷ l) (omega (arith, ap bit e)))
        go true e false f i = among (omega (arith, ap bit e)) (at_level c k level (x ∷ l) (omega (arith, ap bit e)))
        go false e true f i = below (after_back others (under_row k level x ih (ltb-true 0 (stands c own) f)))
        go false e false f i =
            further (i (omega (arith, h, ap bit e, stands_append c ((x, level) ∷ own) others, ltb-false 0 (stands c own) f)))
          where
            further : Found p c level l others → Found p c level (x ∷ l) (((x, level) ∷ own) ++ others)
            further (among j a) = among (omega arith) (at_front ((x, level) ∷ own) a)
            further (below a) = below (after_front ((x, level) ∷ own) a)

    found : (k level : ℕ) (l : List ℕ) → 0 < stands c (all ps k level l) → Found p c level l (all ps k level l)
    unfolding stands
    found zero level l h = absurd (omega (arith, ap (stands c) (no_levels ps level l)))
    found (suc k) level l h = found_one k level (found k (suc level)) l h

    -- whoever stands in the outline stands after its parent
    pub outline_after : 0 < stands c (outline_of ps) → After p c (outline_of ps)
    unfolding outline_of
    outline_after h = go (found (length ps) 1 (top_rows ps) h)
      where
        go : Found p c 1 (top_rows ps) (all ps (length ps) 1 (top_rows ps)) → After p c (all ps (length ps) 1 (top_rows ps))
        go (among i a) = absurd (omega (arith, top_none ps c p parent))
        go (below a) = a

  -- a row with no parent at level 1
  pub outline_top : (c : ℕ) → c < length ps → parent_at ps c ≡ None → At c 1 (outline_of ps)
  unfolding outline_of
  outline_top c l h =
      let e : length ps ≡ suc (length ps - 1) = omega arith in
      rw e (at_level c (length ps - 1) 1 (top_rows ps) (omega (arith, top_times ps c l h)))

  -- where each parent is above its child, all stand
  pub all_stand : ((c p : ℕ) → parent_at ps c ≡ Some p → p < c) → (k level c : ℕ) → c < k → c < length ps → stands c (all ps k level (top_rows ps)) ≡ 1
  all_stand up zero level c h l = absurd (omega arith)
  all_stand up (suc k) level c h l = go (parent_at ps c) refl (all_stand up k (suc level))
    where
      go : (o : Option ℕ) → parent_at ps c ≡ o → ((p : ℕ) → p < k → p < length ps → stands p (all ps k (suc level) (top_rows ps)) ≡ 1)
          → stands c (all ps (suc k) level (top_rows ps)) ≡ 1
      go None e f = at_top ps c k level l e
      go (Some p) e f =
          let b : p < c = up c p e in
          as_parent ps c p k level e ∙ f p (omega arith) (omega arith)

-- ---- a model that passes the check

abbrev pub parents_of : Model → List (Option ℕ)
parents_of m = map (λ (a : Activity). a.parent) m.activities

checked_rows : (m : Model) (from : ℕ) (l : List Activity) → every? (activity_right m) (numbered from l) ≡ true
    → (r p : ℕ) → get_or (map (λ (a : Activity). a.parent) l) r None ≡ Some p → p < from + r
unfolding every? numbered activity_right
checked_rows m from [] h r p e = never e
checked_rows m from (a ∷ l) h zero p e =
    let t : if_given (λ p. ltb p from) a.parent ≡ true =
    and_left (if_given (λ p. ltb p from) a.parent) (if_given (is_calendar m) a.calendar)
    (and_left (activity_right m (from, a)) (every? (activity_right m) (numbered (suc from) l)) h) in
    omega (arith, ltb-true p from (sym (ap (if_given (λ p. ltb p from)) e) ∙ t))
checked_rows m from (a ∷ l) h (suc r) p e =
    omega (arith, checked_rows m (suc from) l (and_right (activity_right m (from, a)) (every? (activity_right m) (numbered (suc from) l)) h) r p e)

checked_all : (m : Model) → keeps_list m ≡ true → every? (activity_right m) (numbered 0 m.activities) ≡ true
unfolding keeps_list
checked_all m h = go (distinct same (map (λ (a : Activity). a.id) m.activities)) refl (every? (activity_right m) (numbered 0 m.activities)) refl
  where
    go : (t : Bool) → distinct same (map (λ (a : Activity). a.id) m.activities) ≡ t
        → (u : Bool) → every? (activity_right m) (numbered 0 m.activities) ≡ u → every? (activity_right m) (numbered 0 m.activities) ≡ true
    go t p true q = q
    go true p false q = let z : ◌≡◌ {A = Bool} false true = rw (p, q) at h in let y : ◌≡◌ {A = ℕ} 0 1 = cc in absurd (omega arith)
    go false p false q = let z : ◌≡◌ {A = Bool} false true = rw p at h in let y : ◌≡◌ {A = ℕ} 0 1 = cc in absurd (omega arith)

checked : (m : Model) → keeps_list m ≡ true → (r p : ℕ) → get_or (parents_of m) r None ≡ Some p → p < r
checked m h r p e = omega (arith, checked_rows m 0 m.activities (checked_all m h) r p e)

pub parent_counts : (ps : List (Option ℕ)) (c p : ℕ) → get_or ps c None ≡ Some p → p < c → c < length ps → parent_at ps c ≡ Some p
unfolding parent_at
parent_counts ps c p e h l =
    let t : ltb p (length ps) && not (eqb p c) ≡ true = rw (lt-ltb p (length ps) (omega arith), ne_eqb p c (λ q. omega arith)) in
    ap (parent_in (length ps) c) e ∙ ap {B = Option ℕ} (λ (b : Bool). elim b [ true ↦ Some p | false ↦ None ]) t

parent_names : (ps : List (Option ℕ)) (c p : ℕ) → parent_at ps c ≡ Some p → get_or ps c None ≡ Some p
unfolding parent_at
parent_names ps c p h = given (get_or ps c None) h
  where
    test : (q : ℕ) (t : Bool) → elim t [ true ↦ Some q | false ↦ None ] ≡ Some p → Some q ≡ Some p
    test q true k = k
    test q false k = never k

    given : (o : Option ℕ) → parent_in (length ps) c o ≡ Some p → o ≡ Some p
    given None k = k
    given (Some q) k = test q (ltb q (length ps) && not (eqb q c)) k

-- after its parent and one level below it, or at level 1
abbrev pub Placed : Option ℕ → ℕ → List (ℕ × ℕ) → Type 0
Placed None c l = At c 1 l
Placed (Some p) c l = After p c l

pub outline_checked : (m : Model) → keeps_list m ≡ true → (c : ℕ) → c < length m.activities
    → (stands c (outline m) ≡ 1) × Placed (get_or (parents_of m) c None) c (outline m)
unfolding outline
outline_checked m h c l = (stood, place (get_or (parents_of m) c None) refl)
  where
    inside : c < length (parents_of m)
    inside = rw (length-map m.activities (λ (a : Activity). a.parent)) l

    up : (r p : ℕ) → parent_at (parents_of m) r ≡ Some p → p < r
    up r p e = checked m h r p (parent_names (parents_of m) r p e)

    stood : stands c (outline_of (parents_of m)) ≡ 1
    stood = unfold outline_of in all_stand (parents_of m) up (length (parents_of m)) 1 c inside inside

    place : (o : Option ℕ) → get_or (parents_of m) c None ≡ o → Placed o c (outline_of (parents_of m))
    place None e = outline_top (parents_of m) c inside (unfold parent_at in ap (parent_in (length (parents_of m)) c) e)
    place (Some p) e =
        outline_after (parents_of m) p c (parent_counts (parents_of m) c p e (checked m h c p e) inside) (omega (arith, stood))
