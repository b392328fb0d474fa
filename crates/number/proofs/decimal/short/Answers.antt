use Rattle.std.proofs.Common.{◌≡◌, ℕ, ◌+◌, ◌-◌, ◌*◌, ◌^◌, ◌<◌, ◌≤◌, false, pos, sym, ap, ◌∙◌, le_trans, le_of_lt, zero-lt-suc, mul_assoc, mul_comm, mul-pos, mul-one, arith, lit≤, pow-add}
use lib.Ieee.{binary64, of_int, round}
use lib.Ieee.Back.{round_whole}
use lib.Ieee.Exact.{HasValue}
use lib.Ieee.Scale.{round_same}
use Rattle.number.proofs.Values.{mul_of, div_of, ten_pos}
use Rattle.number.proofs.decimal.short.Goals as goal

whole_le : (m : ℕ) → m < 10 ^ 15 → m ≤ 2 ^ 53
whole_le m h = le_trans (le_of_lt h) (lit≤ tt)

-- the cast is exact
cast : (m : ℕ) → m < 10 ^ 15 → HasValue (of_int binary64 (pos m)) false m 1
unfolding of_int
cast m h = round_whole binary64 false m (whole_le m h)

-- m * 10 ^ k, with k + d = u, is m * 10 ^ u / 10 ^ d
up_same : (m k u d : ℕ) → k + d ≡ u → round binary64 false (m * 10 ^ k) (1 * 1) ≡ round binary64 false (m * 10 ^ u) (10 ^ d)
up_same m k u d e =
    round_same binary64 false (m * 10 ^ k) (1 * 1) (m * 10 ^ u) (10 ^ d) (zero-lt-suc 0) (ten_pos d)
    (mul_assoc m (10 ^ k) (10 ^ d) ∙ ap (λ (z : ℕ). m * z) (sym (pow-add 10 k d) ∙ ap (λ (z : ℕ). 10 ^ z) e) ∙ sym (mul-one (m * 10 ^ u)))

-- m / 10 ^ k, with k + u = d, is too
down_same : (m k u d : ℕ) → k + u ≡ d → round binary64 false (m * 1) (10 ^ k * 1) ≡ round binary64 false (m * 10 ^ u) (10 ^ d)
down_same m k u d e =
    let p : 10 ^ d ≡ 10 ^ u * 10 ^ k = ap (λ (z : ℕ). 10 ^ z) (sym e) ∙ pow-add 10 k u ∙ mul_comm (10 ^ k) (10 ^ u) in
    round_same binary64 false (m * 1) (10 ^ k * 1) (m * 10 ^ u) (10 ^ d) (mul-pos (ten_pos k) (zero-lt-suc 0)) (ten_pos d)
    (rw (mul-one m, mul-one (10 ^ k), p) (sym (mul_assoc m (10 ^ u) (10 ^ k))))

pub returns-then-down-up : goal.returns-then-down-up
returns-then-down-up c =
    let m = c.args.v in
    let u = c.args.up in
    let d = c.args.down in
    mul_of binary64 (of_int binary64 (pos m)) c.ten.result false false m 1 (10 ^ (u - d)) 1 (zero-lt-suc 0) (zero-lt-suc 0) (cast m c.requires.few) c.ten.ensures
    ∙ up_same m (u - d) u d (omega arith)

pub returns-else-down-up : goal.returns-else-down-up
returns-else-down-up c =
    let m = c.args.v in
    let u = c.args.up in
    let d = c.args.down in
    div_of binary64 (of_int binary64 (pos m)) c.ten-else-down-up.result false false m 1 (10 ^ (d - u)) 1 (zero-lt-suc 0) (zero-lt-suc 0) (ten_pos (d - u)) (cast m c.requires.few) c.ten-else-down-up.ensures
    ∙ down_same m (d - u) u d (omega arith)
