-- New attributes of areas: another protection, or a seal.
use Rattle.std.specs.Prelude.{Bool, true}
use Rattle.mm_types.specs.declared.area.Attr.{Attr}
use Rattle.mm_types.specs.declared.area.Record.{Record}
use Rattle.mm_types.specs.Records.{holds_all}
use Rattle.area_list.specs.declared.attributes.AttrChange.{AttrChange}
use Rattle.area_list.specs.declared.attributes.AttrChange.TheVariants.{Protection, Seal}
use Rattle.area_list.specs.Areas.{MappedPage}

-- the attributes after a change: another protection, or sealed
abbrev pub attr_after : AttrChange → Attr → Attr
attr_after (Protection prot) attr = record attr { prot = prot }
attr_after Seal attr = record attr { sealed = true }

-- whether attributes may change so: a protection within the most that is allowed, and a seal always
abbrev pub may_become : AttrChange → Attr → Bool
may_become (Protection prot) attr = holds_all attr.most prot
may_become Seal attr = true

-- the area with its attributes changed
abbrev pub with_attr : AttrChange → Record → Record
with_attr change area = record area { attr = attr_after change area.attr }

-- the page with its attributes changed
abbrev pub changed_page : AttrChange → MappedPage → MappedPage
changed_page change page = record page { attr = attr_after change page.attr }
