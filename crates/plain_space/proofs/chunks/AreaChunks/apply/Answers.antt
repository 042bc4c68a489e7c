-- For `AreaChunks::apply` of chunks.rt: its goals.
use Rattle.std.proofs.Common.{◌≡◌, ◌∙◌, All, List, length, ap, subst, sym, arith}
use Rattle.std.specs.List.{Contains}
use Rattle.std.proofs.lemmas.Bool.{or_parts}
use Rattle.mm_types.specs.declared.area.Record.{Record}
use Rattle.split_merge.specs.declared.plan.Change.{Change}
use Rattle.split_merge.specs.Plans.{olds_of, applied, IsPlanOf, IsPlannedFor}
use Rattle.split_merge.proofs.Ascending.{ascending}
use Rattle.split_merge.proofs.Counting.{plan_counts}
use Rattle.plain_space.specs.Internal.Chunks.{areas_in_chunks}
use Rattle.plain_space.specs.Stored.{Stored, brings_sealed}
use Rattle.plain_space.proofs.InOrder.{begins_ascend}
use Rattle.plain_space.proofs.Unsealed.{IsUnsealed, unsealed_applied}
use Rattle.plain_space.proofs.chunks.AreaChunks.apply.Goals as goal

pub count_after-self-inside-requires-clause-olds : goal.count_after-self-inside-requires-clause-olds
count_after-self-inside-requires-clause-olds c =
    let areas : List Record = areas_in_chunks c.self.inside.store.chunks.items in
    let plan : List Change = c.args.plan.now.changes in
    let counts = plan_counts plan areas (ascending _ areas c.self.invariant.kept.canonical)
    (subst (λ (stored : Stored). IsPlanOf stored.list plan) (sym c.self.view_is) c.requires.plan) in
    omega (arith, c.self.invariant.counted, counts.olds_few)

pub carry_out-requires-clause-ascend : goal.carry_out-requires-clause-ascend
carry_out-requires-clause-ascend c = begins_ascend _ (areas_in_chunks c.self.inside.store.chunks.items) c.self.invariant.kept.canonical

pub carry_out-requires-clause-members : goal.carry_out-requires-clause-members
carry_out-requires-clause-members c =
    subst (λ (changes : List Change). All (Contains (areas_in_chunks c.self.inside.store.chunks.items)) (olds_of changes)) (sym c.changes-changes.ensures)
    (subst (λ (stored : Stored). All (Contains stored.list) (olds_of c.args.plan.now.changes)) (sym c.self.view_is) c.requires.plan.members)

pub invariant_of-self : goal.invariant_of-self
invariant_of-self c =
    let areas : List Record = areas_in_chunks c.self.inside.store.chunks.items in
    let plan : List Change = c.args.plan.now.changes in
    let is : areas_in_chunks c.carry_out.new.store.chunks.items ≡ applied plan areas =
    c.carry_out.ensures.areas ∙ ap (λ (changes : List Change). applied changes areas) c.changes-changes.ensures in
    let counts = plan_counts plan areas (ascending _ areas c.self.invariant.kept.canonical)
    (subst (λ (stored : Stored). IsPlanOf stored.list plan) (sym c.self.view_is) c.requires.plan) in
    record {
      kept = subst (λ list. IsPlannedFor c.self.inside.bounds c.self.inside.most list) (sym is)
          (subst (λ (stored : Stored). IsPlannedFor stored.bounds stored.most (applied plan stored.list)) (sym c.self.view_is) c.requires.kept);
      counted = omega (arith, c.self.invariant.counted, counts.count, c.count_after-self-inside.ensures, ap length is);
      sane = c.carry_out.ensures.stays.sane;
      room = omega (arith, c.self.invariant.room, c.carry_out.ensures.stays.room);
      unsealed = λ none. let parts = or_parts c.self.inside.sealed c.brings_sealed.result none in subst (λ (list : List Record). All IsUnsealed list) (sym is)
          (unsealed_applied plan areas (c.self.invariant.unsealed parts.0)
          (ap brings_sealed (sym c.changes-changes.ensures) ∙ sym c.brings_sealed.ensures ∙ parts.1));
    }
