-- What the fields of a tree of areas keep.
use Rattle.std.specs.Prelude.{◌≡◌, ◌≤◌, false, [], length, All}
use Rattle.std.specs.Vec.{vec_capacity}
use Rattle.mm_types.specs.Config.{slots_for}
use Rattle.area_rules.specs.declared.placement.TheConstants.{WINDOW_END}
use Rattle.area_tree.specs.declared.tree.AreaTree.TheInside.{Inside}
use Rattle.area_tree.specs.AreaTrees.{AreaTreeView, AreRecords}

-- the tree of areas that the fields are
abbrev pub area_tree_view : Inside → AreaTreeView
area_tree_view fields = record { tree = fields.tree; records = fields.records; bounds = fields.bounds; sealed = fields.sealed }

-- Each slot of the tree shows an area with the pages of its pair. The count is theirs, the most areas are those of the tree,
-- and there is a record for each slot. Areas are placed up to the tree's limit, and there is room to hand as many out as there may be,
-- and no more. Before a slot showed a sealed area no record is sealed.
pub record IsAreaTree (fields : Inside) : Type 0 where
  pub spans : AreRecords fields.records fields.tree.pairs
  pub counted : fields.count ≡ length fields.tree.pairs
  pub most_is : fields.most ≡ fields.tree.areas
  pub slots : length fields.records ≡ slots_for fields.tree.areas
  pub limit : fields.bounds.limit ≡ fields.tree.limit
  pub top : fields.bounds.top ≤ fields.bounds.limit
  pub window : WINDOW_END ≤ fields.bounds.limit
  pub empty : fields.list.items ≡ []
  pub room : vec_capacity fields.list ≡ fields.tree.areas
  pub unsealed : fields.sealed ≡ false → All (λ area. area.attr.sealed ≡ false) fields.records
