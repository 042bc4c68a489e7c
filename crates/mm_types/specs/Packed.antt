-- Areas as rows of four words.
use Rattle.std.specs.Prelude.{ℕ, ◌+◌, ◌*◌, ◌-◌, ◌/◌, ◌%◌, ◌^◌, Bool, not, ◌&&◌, List, [], ◌∷◌, Option, Some, None, if◌then◌else◌, nat_eq, nat_lt, nat_le}
use Rattle.mm_types.specs.declared.area.Attr.{Attr}
use Rattle.mm_types.specs.declared.area.Prot.{Prot}
use Rattle.mm_types.specs.declared.area.Record.{Record}
use Rattle.mm_types.specs.declared.config.TheConstants.{MOST_AREA_END, MOST_OBJECT_PAGES}
use Rattle.mm_types.specs.Records.{holds_all}

-- a flag as a bit: 1 where it is set
abbrev pub bit : Bool → ℕ
bit flag = if flag then 1 else 0

-- the bits of a protection: bit 0 to read, bit 1 to write, bit 2 to execute
unfoldable pub prot_bits : Prot → ℕ
prot_bits prot = bit prot.read + 2 ^ 1 * bit prot.write + 2 ^ 2 * bit prot.exec

-- the bits of attributes: 0 to 2 what is allowed, 3 to 5 the most that may be, then shared, grows, sealed and heap
unfoldable pub attr_bits : Attr → ℕ
attr_bits attr = prot_bits attr.prot + 2 ^ 3 * prot_bits attr.most + 2 ^ 6 * bit attr.shared
    + 2 ^ 7 * bit attr.grows + 2 ^ 8 * bit attr.sealed + 2 ^ 9 * bit attr.heap

-- The words of an area. The first has its attributes in bits 0 to 9, bit 15 set, and its first page from bit 16 on.
-- Then follow the page where it ends, its object and its offset.
unfoldable pub packed : Record → List ℕ
packed area = (2 ^ 16 * area.span.lo + 2 ^ 15 + attr_bits area.attr) ∷ area.span.hi ∷ area.object ∷ area.offset ∷ []

-- whether a bit of a word is set
abbrev pub has_bit : ℕ → ℕ → Bool
has_bit word place = nat_eq (word / 2 ^ place % 2) 1

-- the protection whose bits stand in a word from a place on
unfoldable pub prot_at : ℕ → ℕ → Prot
prot_at word place = record {
  read = has_bit word place;
  write = has_bit word (place + 1);
  exec = has_bit word (place + 2);
}

-- the attributes whose bits stand in a word
unfoldable pub attr_of : ℕ → Attr
attr_of word = record {
  prot = prot_at word 0;
  most = prot_at word 3;
  shared = has_bit word 6;
  grows = has_bit word 7;
  sealed = has_bit word 8;
  heap = has_bit word 9;
}

-- whether the first word of a row is that of an area: bit 15 is set, and bits 10 to 14 are not
unfoldable pub is_attached : ℕ → Bool
is_attached word = has_bit word 15 && nat_eq (word / 2 ^ 10 % 2 ^ 5) 0

-- whether a record is valid, as a test
unfoldable pub is_valid : Record → Bool
is_valid area = nat_lt area.span.lo area.span.hi && (nat_le area.span.hi MOST_AREA_END
    && (holds_all area.attr.most area.attr.prot && (if nat_eq area.object 0 then nat_eq area.offset 0 && not area.attr.shared
    else nat_le (area.offset + (area.span.hi - area.span.lo)) MOST_OBJECT_PAGES)))

-- the record whose fields stand in four words
unfoldable pub unpacked_record : ℕ → ℕ → ℕ → ℕ → Record
unpacked_record first hi object offset = record {
  span = record { lo = first / 2 ^ 16; hi = hi };
  attr = attr_of first;
  object = object;
  offset = offset;
}

-- The valid area that has these words. There is none where the first is not that of an area, where the object's number has
-- more than 32 bits, and where the record is not valid.
unfoldable pub unpacked : List ℕ → Option Record
unpacked (first ∷ hi ∷ object ∷ offset ∷ []) = let area = unpacked_record first hi object offset in
    if is_attached first && (nat_lt object (2 ^ 32) && is_valid area) then Some area else None
unpacked _ = None
