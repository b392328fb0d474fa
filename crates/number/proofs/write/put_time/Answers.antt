use Rattle.definition.specs.Time.{time_text}
use Rattle.number.specs.Written.{◌⨾◌, cut}
use Rattle.number.proofs.write.put_time.Goals as goal

pub returns-in_err-a : goal.returns-in_err-a
unfolding time_text
returns-in_err-a c = rw c.from_residual.ensures (cut _ c.in_err-a.ensures)

pub returns-in_err-b : goal.returns-in_err-b
unfolding time_text
returns-in_err-b c = rw c.from_residual-in_err-b.ensures (c.in_ok-a.ensures ⨾ cut _ c.in_err-b.ensures)

pub returns-in_err-c : goal.returns-in_err-c
unfolding time_text
returns-in_err-c c = rw c.from_residual-in_err-c.ensures (c.in_ok-a.ensures ⨾ c.in_ok-b.ensures ⨾ cut _ c.in_err-c.ensures)

pub returns-in_err-d : goal.returns-in_err-d
unfolding time_text
returns-in_err-d c = rw c.from_residual-in_err-d.ensures (c.in_ok-a.ensures ⨾ c.in_ok-b.ensures ⨾ c.in_ok-c.ensures ⨾ cut _ c.in_err-d.ensures)

pub returns-in_err-e : goal.returns-in_err-e
unfolding time_text
returns-in_err-e c = rw c.from_residual-in_err-e.ensures (c.in_ok-a.ensures ⨾ c.in_ok-b.ensures ⨾ c.in_ok-c.ensures ⨾ c.in_ok-d.ensures ⨾ cut _ c.in_err-e.ensures)

pub returns : goal.returns
unfolding time_text
returns c =
    c.in_ok-a.ensures
    ⨾ c.in_ok-b.ensures
    ⨾ c.in_ok-c.ensures
    ⨾ c.in_ok-d.ensures
    ⨾ c.in_ok-e.ensures
    ⨾ c.put-4.ensures
