-- Link elements: what becomes of one, and the kept ones written one after another. Assumes nothing.
use Rattle.std.proofs.Common.{◌≡◌, ℕ, ◌+◌, ◌%◌, ◌^◌, true, false, List, ◌∷◌, sym, ap, ◌∙◌, Bor, refl, arith, []}
use Rattle.std.specs.Prelude.{Option, Some, None}
use Rattle.definition.specs.Ascii.{bytes}
use Rattle.definition.specs.Text.{Text}
use Rattle.definition.specs.Tree.{Element, all}
use Rattle.definition.specs.Field.{text_in, yes_in}
use Rattle.definition.specs.Model as M
use Rattle.definition.specs.Format.{whole}
use Rattle.definition.specs.Pack.{link}
use Rattle.definition.specs.Task.{context_of, kept_tasks, per_day_of}
use Rattle.definition.specs.Link.{link_lag, link_kind, link_of}
use Rattle.bits.specs.Steps.{Puts, put_same}
use Rattle.bits.specs.declared.Place.{Place}
use Rattle.pack.specs.Value.{lag_fields}
use Rattle.pack.specs.Record.{link_by}
use Rattle.pack.specs.declared.record.Link.{Link}
use Rattle.pack.specs.declared.record.Records.{Records}
use Rattle.links.specs.Fates.{LinkFate, Finder, fate_for, links_by, day_only, links_for, links_in, links_from}
use Rattle.links.specs.Entered.{links_are}
use Rattle.links.specs.More.{More, more_none, more_one, more_as, Left, left_all, left_next, left_end}
use Rattle.links.specs.declared.fate.LeftOut.{LeftOut}
use Rattle.links.specs.declared.fate.LeftOut.TheVariants.{Across, Dangling}
use Rattle.std.specs.Prelude.{Ok, Err}
use Rattle.std.specs.Option.{ok_or, option_map}

-- ---- what becomes of one

left_out : (o : Option (Bor Text)) {why : LeftOut} → ok_or o Dangling ≡ Err why → (o ≡ None) × (why ≡ Dangling)
left_out (Some t) k = let z : ◌≡◌ {A = ℕ} 0 1 = cc in absurd (omega arith)
left_out None k = (refl, cc)

there : (o : Option (Bor Text)) {t : Bor Text} → ok_or o Dangling ≡ Ok t → o ≡ Some t
there (Some t) k = cc
there None k = let z : ◌≡◌ {A = ℕ} 0 1 = cc in absurd (omega arith)

module _ (find : Finder) (l : Element) where
  pub fate_across : yes_in l "CrossProject" ≡ true → Err Across ≡ fate_for find l
  unfolding fate_for
  fate_across e = rw e

  module _ (e : yes_in l "CrossProject" ≡ false) (o : Option (Bor Text)) (h : option_map (λ t. t.now) o ≡ text_in l "PredecessorUID") where
    pub fate_none : {why : LeftOut} → ok_or o Dangling ≡ Err why → Err why ≡ fate_for find l
    unfolding fate_for
    fate_none k = let (n, d) = left_out o k in rw (e, ← h, n, d)

    pub fate_row : {t : Bor Text} → ok_or o Dangling ≡ Ok t → {a : Option ℕ} → a ≡ find t.now → {r : LinkFate} → r ≡ ok_or a Dangling → r ≡ fate_for find l
    unfolding fate_for
    fate_row k i m = rw (e, ← h, there o k, ← i) m

-- ---- one written

module _ (per_day : ℕ) (l : Element) (x : Link) (e : x.kind ≡ link_kind l) (h : lag_fields x.lag ≡ (let m = link_lag per_day l in (m.days, (m.minutes, m.kind)))) where
  link_is : link_by x ≡ link_of (day_only per_day) x.predecessor x.successor l
  unfolding link_of
  link_is = λ i. record {
    predecessor = x.predecessor;
    successor = x.successor;
    kind = e i;
    lag = (h i).0;
    minutes = (h i).1.0;
    lag_kind = (h i).1.1;
  }

module _ (per_day row : ℕ) (l : Element) {d : List ℕ} {done : Records} where
  pub put_one : (x : Link) {d' : List ℕ} {q : Place} {n : ℕ} → x.kind ≡ link_kind l → lag_fields x.lag ≡ (let m = link_lag per_day l in (m.days, (m.minutes, m.kind))) → x.successor ≡ row → Puts (whole link) (link_by x) d done.next d' q → n ≡ (done.count + 1) % 2 ^ 32
      → More (whole link) (links_for per_day row l (Ok x.predecessor)) d done d' (record { count = n; next = q })
  unfolding links_for
  put_one x e h k i j = more_one (put_same (link_is per_day l x e h ∙ ap (λ (r : ℕ). link_of (day_only per_day) x.predecessor r l) k) i) j

  pub put_none : {f : LinkFate} {why : LeftOut} → f ≡ Err why → More (whole link) (links_for per_day row l f) d done d done
  unfolding links_for
  put_none e = rw e (more_none d done)

  pub put_fate : {f : LinkFate} {p : ℕ} → f ≡ Ok p → {d' : List ℕ} {r : Records} → More (whole link) (links_for per_day row l (Ok p)) d done d' r → More (whole link) (links_for per_day row l f) d done d' r
  put_fate e h = more_as (ap (links_for per_day row l) (sym e)) h

-- ---- the loops: what is left to be written

module _ (per_day : ℕ) (find : Finder) where
  module _ (row : ℕ) {every : List M.Link} {ls : List Element} {d : List ℕ} {done : Records} {d' : List ℕ} {r : Records} (h : Left (whole link) every (links_in per_day find row ls) d done d' r) where
    pub in_next : {l : Element} {k : List Element} → ls ≡ l ∷ k → {f : LinkFate} → f ≡ fate_for find l → {d'' : List ℕ} {r' : Records} → More (whole link) (links_for per_day row l f) d' r d'' r'
        → Left (whole link) every (links_in per_day find row k) d done d'' r'
    unfolding links_in
    in_next {l} e i m = left_next h (ap (links_in per_day find row) e) (more_as (ap (links_for per_day row l) i) m)

    pub in_end : ls ≡ [] → More (whole link) every d done d' r
    unfolding links_in
    in_end e = left_end h (ap (links_in per_day find row) e)

  module _ (row : ℕ) {every : List M.Link} {ts : List Element} {d : List ℕ} {done : Records} {d' : List ℕ} {r : Records} (h : Left (whole link) every (links_from per_day find row ts) d done d' r) where
    pub from_next : {t : Element} {k : List Element} → ts ≡ t ∷ k → {d'' : List ℕ} {r' : Records} → More (whole link) (links_in per_day find row (all t (bytes "PredecessorLink"))) d' r d'' r'
        → Left (whole link) every (links_from per_day find (row + 1) k) d done d'' r'
    unfolding links_from
    from_next e m = left_next h (ap (links_from per_day find row) e) m

    pub from_end : ts ≡ [] → More (whole link) every d done d' r
    unfolding links_from
    from_end e = left_end h (ap (links_from per_day find row) e)

pub from_begin : (find : Finder) (root : Element) {per_day : ℕ} {ts : List Element} {d : List ℕ} {done : Records} → per_day ≡ per_day_of root → kept_tasks root ≡ ts → Left (whole link) (links_by find (context_of root)) (links_from per_day find 0 ts) d done d done
unfolding context_of
from_begin find root {per_day} {ts} e h = left_all (links_are find (context_of root) ∙ ap (λ (n : ℕ). links_from n find 0 (kept_tasks root)) (sym e) ∙ ap (links_from per_day find 0) h)
