-- The text of /proc/PID/maps, as proc_pid_maps(5) has it.
use Rattle.std.specs.Prelude.{ℕ, ◌*◌, ◌-◌, Bool, false, List, [], ◌∷◌, ◌++◌, length, Option, Some, None, if◌then◌else◌, nat_eq, nat_lt, codes, decimal, replicate, flat_map, slice_get}
use Rattle.std.specs.Fmt.{digits}
use Rattle.std.specs.Str.{byte}
use Rattle.mm_types.specs.declared.area.Record.{Record}
use Rattle.mm_types.specs.declared.area.Span.{Span}
use Rattle.mm_types.specs.declared.config.TheConstants.{PAGE_SIZE}
use Rattle.mm_types.specs.declared.files.FileRow.{FileRow}

-- a number in lower-case hexadecimal, filled with leading zeros up to this width
unfoldable pub hex : ℕ → ℕ → List ℕ
hex width n = let text = digits 16 false n in replicate (width - length text) (byte "0") ++ text

-- where a page begins, in bytes
unfoldable pub page_text : ℕ → List ℕ
page_text page = hex 8 (PAGE_SIZE * page)

-- the addresses of a span, as `<lo>-<hi>`
unfoldable pub span_text : Span → List ℕ
span_text span = page_text span.lo ++ codes "-" ++ page_text span.hi

-- the letter of an access that is allowed, and else a dash
abbrev pub letter : Bool → ℕ → ℕ
letter allowed access = if allowed then access else byte "-"

-- the accesses that are allowed, and whether the area is shared or private
unfoldable pub perms : Record → List ℕ
perms area = letter area.attr.prot.read (byte "r") ∷ letter area.attr.prot.write (byte "w") ∷ letter area.attr.prot.exec (byte "x")
    ∷ (if area.attr.shared then byte "s" else byte "p") ∷ []

-- the addresses of an area and what is allowed there, as `<lo>-<hi> <perms>`
unfoldable pub range_text : Record → List ℕ
range_text area = span_text area.span ++ codes " " ++ perms area

-- what an area maps: a device, an inode and a name
pub record Backing : Type 0 where
  pub major : ℕ
  pub minor : ℕ
  pub inode : ℕ
  pub name : List ℕ

-- Private anonymous memory has device 00:00 and inode 0, the name [heap] where it is part of the heap, and else no name; a file
-- has its own; a shared anonymous object has device 00:01, its number as inode, and a name of the kernel's.
unfoldable pub backing : List FileRow → Record → Backing
backing files area = if nat_eq area.object 0 then record { major = 0; minor = 0; inode = 0; name = if area.attr.heap then codes "[heap]" else [] }
    else file_backing (slice_get files (area.object - 1)) area.object
  where
    file_backing : Option FileRow → ℕ → Backing
    file_backing (Some file) object = record { major = file.major; minor = file.minor; inode = file.inode; name = file.path }
    file_backing None object = record { major = 0; minor = 1; inode = object; name = codes "/dev/zero (deleted)" }

-- where in what it maps an area begins, and which that is, as `<offset> <major>:<minor> <inode>`
unfoldable pub place_text : ℕ → Backing → List ℕ
place_text offset backing = page_text offset ++ codes " " ++ hex 2 backing.major ++ codes ":" ++ hex 2 backing.minor ++ codes " "
    ++ decimal backing.inode

-- what stands before the name: `<lo>-<hi> <perms> <offset> <major>:<minor> <inode> `
unfoldable pub front_text : Record → Backing → List ℕ
front_text area backing = range_text area ++ codes " " ++ place_text area.offset backing ++ codes " "

-- a newline is shown as the four characters \012
abbrev pub shown_byte : ℕ → List ℕ
shown_byte c = if nat_eq c (byte "\n") then codes "\\012" else c ∷ []

-- how many spaces set a name off after so many characters: up to column 73, or one where there are as many already
abbrev pub spaces_before : ℕ → ℕ
spaces_before column = if nat_lt column 73 then 73 - column else 1

-- the name after so many characters
unfoldable pub name_text : ℕ → List ℕ → List ℕ
name_text column [] = []
name_text column (c ∷ name) = replicate (spaces_before column) (byte " ") ++ flat_map shown_byte (c ∷ name)

-- the line of one area, which ends with a newline
unfoldable pub area_text : List FileRow → Record → List ℕ
area_text files area = let mapped = backing files area in let front = front_text area mapped in
    front ++ name_text (length front) mapped.name ++ codes "\n"

-- a line for each area, in the order of the list
abbrev pub list_text : List FileRow → List Record → List ℕ
list_text files areas = flat_map (area_text files) areas
