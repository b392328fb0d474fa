use Rattle.definition.specs.Duration.{duration_text}
use Rattle.number.specs.Written.{◌⨾◌, cut}
use Rattle.number.proofs.write.put_duration.Goals as goal

pub returns-in_err-a : goal.returns-in_err-a
unfolding duration_text
returns-in_err-a c = rw c.from_residual.ensures (cut _ c.in_err-a.ensures)

pub returns-in_err-b : goal.returns-in_err-b
unfolding duration_text
returns-in_err-b c = rw c.from_residual-in_err-b.ensures (c.in_ok-a.ensures ⨾ cut _ c.in_err-b.ensures)

pub returns-in_err-c : goal.returns-in_err-c
unfolding duration_text
returns-in_err-c c = rw c.from_residual-in_err-c.ensures (c.in_ok-a.ensures ⨾ c.in_ok-b.ensures ⨾ cut _ c.in_err-c.ensures)

pub returns-in_err-d : goal.returns-in_err-d
unfolding duration_text
returns-in_err-d c = rw c.from_residual-in_err-d.ensures (c.in_ok-a.ensures ⨾ c.in_ok-b.ensures ⨾ c.in_ok-c.ensures ⨾ cut _ c.in_err-d.ensures)

pub returns-in_err-e : goal.returns-in_err-e
unfolding duration_text
returns-in_err-e c = rw c.from_residual-in_err-e.ensures (c.in_ok-a.ensures ⨾ c.in_ok-b.ensures ⨾ c.in_ok-c.ensures ⨾ c.in_ok-d.ensures ⨾ cut _ c.in_err-e.ensures)

pub returns-in_err-f : goal.returns-in_err-f
unfolding duration_text
returns-in_err-f c = rw c.from_residual-in_err-f.ensures (c.in_ok-a.ensures ⨾ c.in_ok-b.ensures ⨾ c.in_ok-c.ensures ⨾ c.in_ok-d.ensures ⨾ c.in_ok-e.ensures ⨾ cut _ c.in_err-f.ensures)

pub returns-in_err-g : goal.returns-in_err-g
unfolding duration_text
returns-in_err-g c = rw c.from_residual-in_err-g.ensures (c.in_ok-a.ensures ⨾ c.in_ok-b.ensures ⨾ c.in_ok-c.ensures ⨾ c.in_ok-d.ensures ⨾ c.in_ok-e.ensures ⨾ c.in_ok-f.ensures ⨾ cut _ c.in_err-g.ensures)

pub returns : goal.returns
unfolding duration_text
returns c =
    c.in_ok-a.ensures
    ⨾ c.in_ok-b.ensures
    ⨾ c.in_ok-c.ensures
    ⨾ c.in_ok-d.ensures
    ⨾ c.in_ok-e.ensures
    ⨾ c.in_ok-f.ensures
    ⨾ c.in_ok-g.ensures
    ⨾ c.put-6.ensures
