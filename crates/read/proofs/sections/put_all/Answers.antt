use Rattle.std.proofs.Common.{◌≡◌, subst}
use Rattle.definition.specs.Pack.{project, counts, Counts}
use Rattle.bits.specs.Steps.{Puts}
use Rattle.read.specs.Sections.{start, zeros}
use Rattle.pack.specs.Record.{counts_by}
use Rattle.tree.specs.Root.{root_at}
use Rattle.read.proofs.Chains.{whole_after, all_put}
use Rattle.read.proofs.Tables.{tasks_made}
use Rattle.read.proofs.Whole.{fills_counts}
use Rattle.read.proofs.sections.put_all.Goals as goal

pub put_project-q-requires : goal.put_project-q-requires
put_project-q-requires c = tasks_made c.index_rows-tasks.ensures

pub put_sections-requires : goal.put_sections-requires
put_sections-requires c = tasks_made c.index_rows-tasks.ensures

pub returns : goal.returns
returns c =
    let a = c.args in
    let e = root_at a.root in
    let (k, (v, (l, (r, (t, w0))))) = c.default.ensures in
    let none : counts_by c.default.result ≡ zeros = λ i. (k i, (v i, (l i, (r i, (t i, w0 i))))) in
    let x = subst (λ (n : Counts). Puts counts n a.out.now start c.put_counts-p.new.out c.put_counts-p.result) none c.put_counts-p.ensures in
    let y = c.put_project-q.ensures in
    let z = c.put_sections.ensures in
    let w = whole_after project fills_counts x y in
    record {
      puts = λ few. all_put e x y (z.puts few w);
      counts = λ few. z.counts few w;
    }
