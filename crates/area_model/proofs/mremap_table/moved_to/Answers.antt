-- For `moved_to`: its goals.
use Rattle.std.proofs.Common.{arith}
use Rattle.area_rules.proofs.Carrying.{small_moved}
use Rattle.area_model.proofs.mremap_table.moved_to.Goals as goal

pub cut-requires : goal.cut-requires
cut-requires c = small_moved c.args.area.now c.page_of.result _ c.args.areas.now c.carried_area.result c.as_slice.result.now c.in_ok-put.put.items
    c.requires.of_list c.requires.valid (omega arith) (omega arith) c.carried_area.ensures c.in_ok-put.ensures c.as_slice.ensures.value
