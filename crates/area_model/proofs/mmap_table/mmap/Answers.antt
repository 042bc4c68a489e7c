-- For `mmap`: its goals.
use Rattle.std.proofs.Common.{sym, true, false}
use Rattle.mm_types.specs.declared.call.Errno.TheVariants.{Enomem}
use Rattle.area_rules.specs.Mmap.{mapped_list, mmap_unsealed}
use Rattle.area_rules.specs.Tables.{space_of}
use Rattle.area_model.proofs.MmapTable.{same_outcome, same_length_test, refusal, mmap_refused, mmap_no_place, mmap_too_long, mmap_outcome}
use Rattle.area_model.proofs.mmap_table.mmap.Goals as goal

pub returns-in-Some : goal.returns-in-Some
returns-in-Some c = let space = space_of c.args.areas.now c.args.counters in
    same_outcome c.refused.result (refusal space c.in-Some.errno) (mmap_unsealed c.args.config.now space c.args.args.now)
    (sym (mmap_refused c.args.config.now space c.args.args.now c.in-Some.errno (sym c.in-Some.ensures))) c.refused.ensures

pub returns-in_default-start_of : goal.returns-in_default-start_of
returns-in_default-start_of c = let space = space_of c.args.areas.now c.args.counters in
    same_outcome c.refused-in_default-start_of.result (refusal space Enomem) (mmap_unsealed c.args.config.now space c.args.args.now)
    (sym (mmap_no_place c.args.config.now space c.args.args.now (sym c.in_default.ensures) (sym c.in_default-start_of.ensures.value)))
    c.refused-in_default-start_of.ensures

pub returns-then-has_too_many_areas : goal.returns-then-has_too_many_areas
returns-then-has_too_many_areas c = let space = space_of c.args.areas.now c.args.counters in
    same_outcome c.refused-then-has_too_many_areas.result (refusal space Enomem) (mmap_unsealed c.args.config.now space c.args.args.now)
    (sym (mmap_too_long c.args.config.now space c.args.args.now c.in-Some-start_of.start (sym c.in_default.ensures) (sym c.in-Some-start_of.ensures.value)
    (same_length_test c.args.config.now c.has_too_many_areas.result true c.as_slice.result.now c.in_ok-mapped_list.mapped_list.items
    (mapped_list c.args.config.now space c.args.args.now c.in-Some-start_of.start)
    c.has_too_many_areas.ensures c.as_slice.ensures.value c.in_ok-mapped_list.ensures c.if-has_too_many_areas.true)))
    c.refused-then-has_too_many_areas.ensures

pub returns : goal.returns
returns c = let space = space_of c.args.areas.now c.args.counters in
    mmap_outcome c.args.config.now space c.args.args.now c.in-Some-start_of.start (sym c.in_default.ensures) (sym c.in-Some-start_of.ensures.value)
    c.of.result c.in_ok-mapped_list.mapped_list.items c.objects_numbered.result c.of.ensures c.in_ok-mapped_list.ensures c.objects_numbered.ensures
    (same_length_test c.args.config.now c.has_too_many_areas.result false c.as_slice.result.now c.in_ok-mapped_list.mapped_list.items
    (mapped_list c.args.config.now space c.args.args.now c.in-Some-start_of.start)
    c.has_too_many_areas.ensures c.as_slice.ensures.value c.in_ok-mapped_list.ensures c.if-has_too_many_areas.false)
