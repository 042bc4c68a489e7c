-- Lists of Linux's areas that are in order.
use Rattle.std.specs.Prelude.{ℕ, ◌<◌, ◌≤◌, List, [], ◌∷◌}
use Rattle.linux_rules.specs.declared.area.Vma.{Vma}

-- each area has a page, and none begins below this page, or below the end of the one before it
abbrev pub AreInOrderFrom : ℕ → List Vma → Type 0
AreInOrderFrom page [] = Unit {0}
AreInOrderFrom page (vma ∷ areas) = (page ≤ vma.lo) × (vma.lo < vma.hi) × AreInOrderFrom vma.hi areas

-- the areas of a list have a page each, ascend, and share none
abbrev pub AreInOrder : List Vma → Type 0
AreInOrder areas = AreInOrderFrom 0 areas
