-- For `Plan::count_after`: what each loop keeps.
use Rattle.std.proofs.Common.{◌≡◌, ◌≤◌, ◌+◌, drop, length}
use Rattle.split_merge.specs.Plans.{olds_of, news_of}
use Rattle.split_merge.proofs.plan.Plan.count_after.Given as goal

-- the count so far, with what the rest of the changes add to it and take from it
abbrev pub invariant-loop-change : goal.invariant-loop-change
invariant-loop-change l = let rest = drop l.change-index l.changes in record {
  count : (l.after + length (news_of rest)) + length (olds_of l.changes) ≡ (l.count + length (news_of l.changes)) + length (olds_of rest);
  most : l.after ≤ l.count + l.change-index;
  news : length (news_of rest) ≤ length (news_of l.changes);
}
