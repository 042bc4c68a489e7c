-- For `rows_suffice`: few pairs have few rows.
use Rattle.std.proofs.Common.{arith}
use Rattle.area_tree.proofs.Sizes.{few_rows, few_levels}
use Rattle.area_tree.proofs.Counts.{rest_free}
use Rattle.area_tree.proofs.laws.rows_suffice.Goals as goal

pub returns-clause-rows : goal.returns-clause-rows
returns-clause-rows c = λ at slots areas tree layout few most.
    let count = few_rows at slots areas tree layout few in
    let low = few_levels at slots areas tree layout few most in
    omega (arith, count, low)

pub returns-clause-free : goal.returns-clause-free
returns-clause-free c = rest_free
