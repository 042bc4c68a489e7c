-- The words of each operation are read as that operation.
use Rattle.std.proofs.Common.{◌≡◌, ℕ, ◌-◌, ◌*◌, ◌/◌, ◌^◌, ◌<◌, ◌≤◌, ◌≤ℤ◌, Bool, true, false, not, ◌&&◌, nat_eq, nat_lt, List, [], ◌∷◌, ◌++◌, length, codes, bytes_eq, ℤ, pos, negsuc, Ok, All, refl, sym, ap, ◌∙◌, subst, arith}
use Rattle.std.specs.Fmt.{decimal, signed_decimal}
use Rattle.std.specs.List.{join_with_byte}
use Rattle.std.specs.Str.Parse.{AllDigits}
use Rattle.std.specs.Char.{digit_value}
use Rattle.std.proofs.lemmas.Bool.{cond_both, and_parts, ltb-true, le-leb, both_ways, eq-eqb, cond-false}
use Rattle.std.proofs.lemmas.Bool.Decides.{nat_tests}
use Rattle.std.proofs.lemmas.Fmt.{decimal_digit, decimal_is_IsNumeral}
use Rattle.std.proofs.lemmas.Int.{ints}
use Rattle.std.proofs.lemmas.List.Elements.{All-nil, All-cons, All-head, All-tail, All-append, All-map, All-filter}
use Rattle.mm_types.specs.declared.area.Access.{Access}
use Rattle.mm_types.specs.declared.area.Access.TheVariants.{Read, Write, Exec}
use Rattle.mm_types.specs.declared.area.Prot.{Prot}
use Rattle.mm_types.specs.declared.call.MmapArgs.{MmapArgs}
use Rattle.mm_types.specs.declared.call.Call.TheVariants.{Mmap, Munmap, Mprotect, Mremap, Touch, Brk, Mseal}
use Rattle.mm_types.specs.declared.config.TheConstants.{PAGE_SIZE}
use Rattle.mm_types.specs.declared.flags.TheConstants.{MREMAP_FIXED}
use Rattle.mm_types.specs.Flags.{has_flag}
use Rattle.flag_table.specs.Laws.{IsSoundTable}
use Rattle.flag_table.specs.Printing.{printed, rows_with}
use Rattle.flag_table.specs.Reading.{reading, is_zero, read_words}
use Rattle.flag_table.specs.Tables.{Row, FlagNames, HasRows, bits_of, names_of, prot_flags, map_flags, mremap_flags}
use Rattle.flag_table.proofs.Bits.{bits_of-filter}
use Rattle.flag_table.proofs.Pairs.{All-from_test}
use Rattle.flag_table.proofs.Sound.{map_is_sound, mremap_is_sound}
use Rattle.flag_table.proofs.Texts.{reading-printed}
use Rattle.trace_reader.specs.declared.trace.Op.{Op}
use Rattle.trace_reader.specs.declared.trace.Op.TheVariants as ops
use Rattle.trace_reader.specs.Calls.{read_mmap, mmap_of, read_munmap, munmap_of, read_mprotect, mprotect_of, read_mremap, mremap_of, number_if, brk_of, read_mseal, mseal_of, call_named, has_its_new}
use Rattle.text_lexer.specs.Numbers.{number, number_in}
use Rattle.trace_reader.specs.Fields.{descriptor, mapped_descriptor, access, or_flag, flags, read_prot, prot_of_bits}
use Rattle.trace_reader.specs.Operations.{read_fault, fault_of, read_maps, read_fork, op_named, read_op, op_has_its_new}
use Rattle.trace_reader.specs.Values.{IsMapping, IsOpValue}
use Rattle.trace_reader.specs.LineTexts.{hexadecimal_text, address_word, prot_word, access_word, mapping_words, call_words, op_words, HasNames}
use Rattle.trace_reader.proofs.PlainWords.{IsPlain, IsWord}
use Rattle.trace_reader.proofs.Numerals.{number-address, number-decimal, number-hexadecimal, thread_of-decimal, address-word, decimal-word, hexadecimal-word}

-- ---- words that name no line

-- whether a word begins with another letter than `a`
abbrev pub begins_other : List ℕ → Bool
begins_other [] = false
begins_other (c ∷ word) = not (nat_eq 97 c)

-- a word that is a field of an operation
pub record IsField (field : List ℕ) : Type 0 where
  pub word : IsWord field
  pub other : begins_other field ≡ true

-- a test of each byte of a word that stands written out
abbrev pub plain_bytes : List ℕ → Bool
plain_bytes [] = true
plain_bytes (c ∷ word) = nat_lt 32 c && (nat_lt c 127 && plain_bytes word)

pub plain_from_test : (word : List ℕ) → plain_bytes word ≡ true → All IsPlain word
plain_from_test [] e = All-nil IsPlain
plain_from_test (c ∷ word) e =
    let first = and_parts (nat_lt 32 c) (nat_lt c 127 && plain_bytes word) e in
    let rest = and_parts (nat_lt c 127) (plain_bytes word) first.1 in
    All-cons IsPlain c word (ltb-true 32 c first.0, ltb-true c 127 rest.0) (plain_from_test word rest.1)

-- a test of a field that stands written out
abbrev pub field_test : List ℕ → Bool
field_test field = nat_lt 0 (length field) && (plain_bytes field && begins_other field)

pub field_from_test : (field : List ℕ) → field_test field ≡ true → IsField field
field_from_test field e =
    let first = and_parts (nat_lt 0 (length field)) (plain_bytes field && begins_other field) e in
    let rest = and_parts (plain_bytes field) (begins_other field) first.1 in
    record {
      word = record { some = ltb-true 0 (length field) first.0; plain = plain_from_test field rest.0 };
      other = rest.1;
    }

decimal-other : (word : List ℕ) → 0 < length word → AllDigits 10 word → begins_other word ≡ true
decimal-other [] some are = absurd (omega arith)
decimal-other (c ∷ word) some are =
    let digit : digit_value c < 10 = are.0 in grind (arith, nat_tests)

pub decimal-field : (n : ℕ) → n < 2 ^ 64 → IsField (decimal n)
decimal-field n fits = let is = (decimal_is_IsNumeral n fits).0 in
    record { word = decimal-word n fits; other = decimal-other (decimal n) is.0 is.1 }

pub address-field : (n : ℕ) → n < 2 ^ 64 → IsField (address_word n)
unfolding address_word
address-field n fits = record { word = address-word n fits; other = other }
  where
    other : begins_other (address_word n) ≡ true
    other = cond_both (nat_eq n 0) _ _ (λ (word : List ℕ). begins_other word ≡ true) (λ _. refl) (λ _. refl)

-- ---- protections and flags

-- a protection is read as it was printed
record IsProtWord (protection : Prot) : Type 0 where
  reads : read_prot (prot_word protection) ≡ Ok protection
  field : IsField (prot_word protection)

prot_by_parts : (r w x : Bool) → IsProtWord (record { read = r; write = w; exec = x })
unfolding read_prot prot_word prot_of_bits flags reading is_zero read_words printed prot_flags
prot_by_parts true true true = record { reads = refl; field = field_from_test _ refl }
prot_by_parts true true false = record { reads = refl; field = field_from_test _ refl }
prot_by_parts true false true = record { reads = refl; field = field_from_test _ refl }
prot_by_parts true false false = record { reads = refl; field = field_from_test _ refl }
prot_by_parts false true true = record { reads = refl; field = field_from_test _ refl }
prot_by_parts false true false = record { reads = refl; field = field_from_test _ refl }
prot_by_parts false false true = record { reads = refl; field = field_from_test _ refl }
prot_by_parts false false false = record { reads = refl; field = field_from_test _ refl }

prot_is_word : (protection : Prot) → IsProtWord protection
prot_is_word protection = prot_by_parts protection.read protection.write protection.exec

-- names that are fields
record AreNames (table : FlagNames) : Type 0 where
  sound : IsSoundTable table
  rows : All (λ row. IsField row.name) table.rows
  zero : IsField table.zero

map_names : AreNames map_flags
unfolding map_flags
map_names = record {
  sound = map_is_sound;
  rows = All-from_test (λ (row : Row). IsField row.name) (λ (row : Row). field_test row.name) (λ (row : Row) e. field_from_test row.name e) map_flags.rows refl;
  zero = field_from_test (codes "0") refl;
}

mremap_names : AreNames mremap_flags
unfolding mremap_flags
mremap_names = record {
  sound = mremap_is_sound;
  rows = All-from_test (λ (row : Row). IsField row.name) (λ (row : Row). field_test row.name) (λ (row : Row) e. field_from_test row.name e) mremap_flags.rows refl;
  zero = field_from_test (codes "0") refl;
}

-- fields joined by bars are a field
begins_same : (word rest : List ℕ) → begins_other word ≡ true → begins_other (word ++ rest) ≡ true
begins_same [] rest e = absurd cc
begins_same (c ∷ word) rest e = e

bar_plain : IsPlain 124
bar_plain = (omega arith, omega arith)

joined : (fields : List (List ℕ)) → 0 < length fields → All IsField fields → IsField (join_with_byte 124 fields)
joined [] some are = absurd (omega arith)
joined (field ∷ []) some are = All-head IsField field [] are
joined (field ∷ next ∷ fields) some are =
    let first = All-head IsField field (next ∷ fields) are in
    let rest = joined (next ∷ fields) (omega arith) (All-tail IsField field (next ∷ fields) are) in
    record {
      word = record {
        some = longer field (124 ∷ join_with_byte 124 (next ∷ fields)) first.word.some;
        plain = All-append IsPlain field (124 ∷ join_with_byte 124 (next ∷ fields)) first.word.plain
            (All-cons IsPlain 124 (join_with_byte 124 (next ∷ fields)) bar_plain rest.word.plain);
      };
      other = begins_same field (124 ∷ join_with_byte 124 (next ∷ fields)) first.other;
    }
  where
    longer : (xs ys : List ℕ) → 0 < length xs → 0 < length (xs ++ ys)
    longer [] ys some = absurd (omega arith)
    longer (x ∷ xs) ys some = omega arith

some_names : (rows : List Row) (bits : ℕ) → bits_of rows ≡ bits → nat_eq bits 0 ≡ false → 0 < length (names_of rows)
some_names [] bits same other = absurd (both_ways (nat_eq bits 0) other (eq-eqb bits 0 (sym same)))
some_names (row ∷ rows) bits same other = omega arith

-- flags of a table are read as they were printed
pub record IsFlagWord (table : FlagNames) (bits : ℕ) : Type 0 where
  pub reads : flags table (printed table bits) ≡ Ok bits
  pub field : IsField (printed table bits)

flag_word : (table : FlagNames) (bits : ℕ) → AreNames table → HasRows table bits → IsFlagWord table bits
unfolding flags printed
flag_word table bits names has = record { reads = reads; field = field }
  where
    reads : flags table (printed table bits) ≡ Ok bits
    reads = ap or_flag (reading-printed table bits names.sound has)

    field : IsField (printed table bits)
    field = let rows = rows_with bits table.rows in
        cond_both (nat_eq bits 0) _ _ IsField (λ _. names.zero)
        (λ other. joined (names_of rows)
        (some_names rows bits (bits_of-filter bits table.rows names.sound.single ∙ has) other)
        (All-map IsField (λ (row : Row). row.name) rows
        (All-filter (λ (row : Row). has_flag bits row.bit) (λ (row : Row). IsField row.name) table.rows names.rows)))

-- a descriptor is read as it was printed
record IsFdWord (fd : ℤ) : Type 0 where
  reads : mapped_descriptor (signed_decimal fd) ≡ Ok fd
  field : IsField (signed_decimal fd)

no_minus : (word : List ℕ) → AllDigits 10 word → bytes_eq word (codes "-1") ≡ false
no_minus [] are = refl
no_minus (c ∷ word) are =
    let digit : digit_value c < 10 = are.0 in
    let other : nat_eq c 45 ≡ false = grind (arith, nat_tests) in
    rw other refl

descriptor-decimal : (n : ℕ) → n ≤ 2 ^ 31 - 1 → descriptor (decimal n) ≡ Ok (pos n)
unfolding descriptor number_in
descriptor-decimal n small = rw (number-decimal n (omega arith), le-leb 0 n (omega arith), le-leb n (2 ^ 31 - 1) small) refl

fd_is_word : (fd : ℤ) → negsuc 0 ≤ℤ fd → fd ≤ℤ pos (2 ^ 31 - 1) → IsFdWord fd
unfolding mapped_descriptor
fd_is_word (pos n) low high =
    let small : n ≤ 2 ^ 31 - 1 = omega (arith, ints) in
    let fits : n < 2 ^ 64 = omega arith in
    record {
      reads = cond-false (bytes_eq (decimal n) (codes "-1")) (Ok (negsuc 0)) (descriptor (decimal n))
          (no_minus (decimal n) (decimal_is_IsNumeral n fits).0.1) ∙ descriptor-decimal n small;
      field = decimal-field n fits;
    }
fd_is_word (negsuc n) low high =
    let none : n ≡ 0 = omega (arith, ints) in
    subst (λ (k : ℕ). IsFdWord (negsuc k)) (sym none) (record {
      reads = rw (decimal_digit 1 (omega arith)) refl;
      field = rw (decimal_digit 1 (omega arith)) (field_from_test (codes "-1") refl);
    })

-- ---- operations

-- each of these is a field
abbrev AreFields : List (List ℕ) → Type 0
AreFields [] = Unit {0}
AreFields (field ∷ fields) = IsField field × AreFields fields

all_fields : (fields : List (List ℕ)) → AreFields fields → All IsField fields
all_fields [] are = All-nil IsField
all_fields (field ∷ fields) are = All-cons IsField field fields are.0 (all_fields fields are.1)

-- an operation that is read from these words
pub record IsReadFrom (words : List (List ℕ)) (op : Op) : Type 0 where
  pub some : 0 < length words
  pub fields : All IsField words
  pub reads : read_op words ≡ Ok op
  pub right : op_has_its_new op words ≡ true

-- an operation that is read from its words
abbrev pub IsReadable : Op → Type 0
IsReadable op = IsReadFrom (op_words op) op

-- a word that is read as this number
pub record IsNumberWord (n : ℕ) (word : List ℕ) : Type 0 where
  pub reads : number word ≡ Ok n
  pub field : IsField word

pub decimal_is_word : (n : ℕ) → n < 2 ^ 64 → IsNumberWord n (decimal n)
decimal_is_word n fits = record { reads = number-decimal n fits; field = decimal-field n fits }

pub hexadecimal_is_word : (n : ℕ) → n < 2 ^ 64 → IsNumberWord n (hexadecimal_text n)
hexadecimal_is_word n fits =
    record { reads = number-hexadecimal n fits; field = record { word = hexadecimal-word n fits; other = refl } }

-- an mmap(2), whichever way its offset is written
pub mapping_read_from : (args : MmapArgs) (offset : List ℕ) → IsMapping args → HasRows map_flags args.flags
    → IsNumberWord args.offset offset → IsReadFrom (mapping_words args offset) (ops.Call (Mmap args))
unfolding read_op op_named call_named mmap_of read_mmap has_its_new
mapping_read_from args offset is has written =
    let protection = prot_is_word args.prot in
    let flag = flag_word map_flags args.flags map_names has in
    let fd = fd_is_word args.fd is.low is.high in
    record {
      some = omega arith;
      fields = all_fields (mapping_words args offset) (
        field_from_test (codes "mmap") refl,
        (
          address-field args.addr is.addr,
          (decimal-field args.len is.len, (protection.field, (flag.field, (fd.field, (written.field, tt))))),
        ),
      );
      reads = rw (
        number-address args.addr is.addr,
        number-decimal args.len is.len,
        protection.reads,
        flag.reads,
        fd.reads,
        written.reads,
      ) refl;
      right = refl;
    }

mapping-readable : (args : MmapArgs) → IsMapping args → HasRows map_flags args.flags → IsReadable (ops.Call (Mmap args))
unfolding op_words call_words
mapping-readable args is has = mapping_read_from args (decimal args.offset) is has (decimal_is_word args.offset is.offset)

unmap-readable : (address len : ℕ) → address < 2 ^ 64 → len < 2 ^ 64 → IsReadable (ops.Call (Munmap address len))
unfolding op_words call_words read_op op_named call_named munmap_of read_munmap has_its_new
unmap-readable address len fits small = record {
  some = omega arith;
  fields = all_fields (op_words (ops.Call (Munmap address len)))
      (field_from_test (codes "munmap") refl, (address-field address fits, (decimal-field len small, tt)));
  reads = rw (number-address address fits, number-decimal len small) refl;
  right = refl;
}

protect-readable : (address len : ℕ) (protection : Prot) → address < 2 ^ 64 → len < 2 ^ 64
    → IsReadable (ops.Call (Mprotect address len protection))
unfolding op_words call_words read_op op_named call_named mprotect_of read_mprotect has_its_new
protect-readable address len protection fits small = let is = prot_is_word protection in record {
  some = omega arith;
  fields = all_fields (op_words (ops.Call (Mprotect address len protection)))
      (field_from_test (codes "mprotect") refl, (address-field address fits, (decimal-field len small, (is.field, tt))));
  reads = rw (number-address address fits, number-decimal len small, is.reads) refl;
  right = refl;
}

move-readable : (old len new_len bits new : ℕ) → old < 2 ^ 64 → len < 2 ^ 64 → new_len < 2 ^ 64 → new < 2 ^ 64
    → HasRows mremap_flags bits → (has_flag bits MREMAP_FIXED ≡ false → new ≡ 0)
    → IsReadable (ops.Call (Mremap old len new_len bits new))
unfolding op_words call_words read_op op_named call_named mremap_of read_mremap number_if has_its_new
move-readable old len new_len bits new fits small new_small there has none = by_flag (has_flag bits MREMAP_FIXED) refl
  where
    flag : IsFlagWord mremap_flags bits
    flag = flag_word mremap_flags bits mremap_names has

    by_flag : (fixed : Bool) → has_flag bits MREMAP_FIXED ≡ fixed → IsReadable (ops.Call (Mremap old len new_len bits new))
    by_flag true e = record {
      some = omega arith;
      fields = all_fields (op_words (ops.Call (Mremap old len new_len bits new))) (
        field_from_test (codes "mremap") refl,
        (
          address-field old fits,
          (
            decimal-field len small,
            (decimal-field new_len new_small, (flag.field, rw e (address-field new there, tt))),
          ),
        ),
      );
      reads = rw (
        e,
        number-address old fits,
        number-decimal len small,
        number-decimal new_len new_small,
        flag.reads,
        number-address new there,
      ) refl;
      right = rw e refl;
    }
    by_flag false e = record {
      some = omega arith;
      fields = all_fields (op_words (ops.Call (Mremap old len new_len bits new))) (
        field_from_test (codes "mremap") refl,
        (
          address-field old fits,
          (
            decimal-field len small,
            (decimal-field new_len new_small, (flag.field, rw e tt)),
          ),
        ),
      );
      reads = rw (e, number-address old fits, number-decimal len small, number-decimal new_len new_small, flag.reads)
          (ap (λ (n : ℕ). Ok (ops.Call (Mremap old len new_len bits n))) (sym (none e)));
      right = rw e refl;
    }

brk-readable : (address : ℕ) → address < 2 ^ 64 → IsReadable (ops.Call (Brk address))
unfolding op_words call_words read_op op_named brk_of has_its_new
brk-readable address fits = record {
  some = omega arith;
  fields = all_fields (op_words (ops.Call (Brk address))) (field_from_test (codes "brk") refl, (address-field address fits, tt));
  reads = rw (number-address address fits) refl;
  right = refl;
}

seal-readable : (address len options : ℕ) → address < 2 ^ 64 → len < 2 ^ 64 → options < 2 ^ 64
    → IsReadable (ops.Call (Mseal address len options))
unfolding op_words call_words read_op op_named mseal_of read_mseal has_its_new
seal-readable address len options fits small few = record {
  some = omega arith;
  fields = all_fields (op_words (ops.Call (Mseal address len options)))
      (field_from_test (codes "mseal") refl, (address-field address fits, (decimal-field len small, (decimal-field options few, tt))));
  reads = rw (number-address address fits, number-decimal len small, number-decimal options few) refl;
  right = refl;
}

-- an access is read as it was printed
record IsAccessWord (wanted : Access) : Type 0 where
  reads : access (access_word wanted) ≡ Ok wanted
  field : IsField (access_word wanted)

access_is_word : (wanted : Access) → IsAccessWord wanted
unfolding access
access_is_word Read = record { reads = refl; field = field_from_test (codes "r") refl }
access_is_word Write = record { reads = refl; field = field_from_test (codes "w") refl }
access_is_word Exec = record { reads = refl; field = field_from_test (codes "x") refl }

fault-readable : (page : ℕ) (wanted : Access) → page < 2 ^ 52 → IsReadable (ops.Fault (record { 0 = page }) wanted)
unfolding op_words read_op op_named fault_of read_fault
fault-readable page wanted small =
    let is = access_is_word wanted in
    let fits : PAGE_SIZE * page < 2 ^ 64 = omega arith in
    let begins : PAGE_SIZE * page / PAGE_SIZE ≡ page = omega arith in
    record {
      some = omega arith;
      fields = all_fields (op_words (ops.Fault (record { 0 = page }) wanted))
          (field_from_test (codes "fault") refl, (address-field (PAGE_SIZE * page) fits, (is.field, tt)));
      reads = rw (number-address (PAGE_SIZE * page) fits, is.reads) (ap (λ (p : ℕ). Ok (ops.Fault (record { 0 = p }) wanted)) begins);
      right = refl;
    }

maps-readable : IsReadable ops.Maps
unfolding op_words read_op op_named read_maps
maps-readable = record {
  some = omega arith;
  fields = all_fields (op_words ops.Maps) (field_from_test (codes "maps") refl, tt);
  reads = refl;
  right = refl;
}

fork-readable : (child : ℕ) → child < 64 → IsReadable (ops.Fork child)
unfolding op_words read_op op_named read_fork
fork-readable child few = record {
  some = omega arith;
  fields = all_fields (op_words (ops.Fork child)) (field_from_test (codes "fork") refl, (decimal-field child (omega arith), tt));
  reads = rw (thread_of-decimal child few) refl;
  right = refl;
}

-- each operation whose values fit and whose flags have names
pub op-readable : (op : Op) → IsOpValue op → HasNames op → IsReadable op
op-readable (ops.Call (Mmap args)) is has = mapping-readable args is has
op-readable (ops.Call (Munmap addr len)) is has = unmap-readable addr len is.0 is.1
op-readable (ops.Call (Mprotect addr len protection)) is has = protect-readable addr len protection is.0 is.1
op-readable (ops.Call (Mremap old len new_len bits new)) is has =
    move-readable old len new_len bits new is.0 is.1 is.2 is.4 has.0 has.1
op-readable (ops.Call (Touch page wanted)) is has = absurd is
op-readable (ops.Call (Brk addr)) is has = brk-readable addr is
op-readable (ops.Call (Mseal addr len options)) is has = seal-readable addr len options is.0 is.1 is.2
op-readable (ops.Fault page wanted) is has = fault-readable page.0 wanted is
op-readable ops.Maps is has = maps-readable
op-readable (ops.Fork child) is has = fork-readable child is
