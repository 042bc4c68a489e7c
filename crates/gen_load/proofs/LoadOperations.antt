-- For `loads_are_traces`: the operations of a load have values that fit and short words.
use Rattle.std.proofs.Common.{◌≡◌, ℕ, ◌*◌, ◌/◌, ◌^◌, ◌<◌, ◌≤◌, Bool, true, false, length, None, refl, arith, lit≤}
use Rattle.std.proofs.lemmas.Fmt.{length-decimal-le}
use Rattle.std.proofs.lemmas.Int.{ints}
use Rattle.mm_types.specs.declared.area.Access.{Access}
use Rattle.mm_types.specs.declared.area.Access.TheVariants.{Read, Write, Exec}
use Rattle.mm_types.specs.declared.area.Prot.{Prot}
use Rattle.mm_types.specs.declared.call.Call.TheVariants.{Munmap, Mprotect, Mremap}
use Rattle.mm_types.specs.declared.config.TheConstants.{PAGE_SIZE}
use Rattle.mm_types.specs.declared.flags.TheConstants.{MREMAP_MAYMOVE}
use Rattle.flag_table.specs.Printing.{printed}
use Rattle.flag_table.specs.Tables.{FlagNames, HasRows, prot_flags, map_flags, mremap_flags}
use Rattle.trace_reader.specs.declared.trace.Op.{Op}
use Rattle.trace_reader.specs.declared.trace.Op.TheVariants as ops
use Rattle.trace_reader.specs.Fields.{prot_of_bits}
use Rattle.trace_reader.specs.Values.{IsOpValue, is_maps, child_of}
use Rattle.trace_reader.specs.LineTexts.{prot_word, access_word, call_words, op_words, HasNames}
use Rattle.gen_load.specs.declared.draw.Kind.{Kind}
use Rattle.gen_load.specs.declared.draw.Kind.TheVariants.{MapExactly, MapNear, MapAnywhere, Unmap, Protect, Move}
use Rattle.gen_load.specs.declared.draw.Kind.TheVariants as kinds
use Rattle.gen_load.specs.Loads.{drawn_address, length_of, prot_bits_of, new_length_of, mapping, exactly, anywhere, operation}
use Rattle.trace_reader.proofs.PlainWords.{room_of}
use Rattle.trace_reader.proofs.Numerals.{length-address, length-number}

-- an operation with values that fit, flags with names, and short words
pub record IsLoaded (op : Op) : Type 0 where
  pub value : IsOpValue op
  pub names : HasNames op
  pub no_maps : is_maps op ≡ false
  pub no_child : child_of op ≡ None
  pub room : room_of (op_words op) ≤ 130

length-prot : (r w x : Bool) → length (prot_word (record { read = r; write = w; exec = x })) ≤ 30
unfolding prot_word printed prot_flags
length-prot true true true = lit≤ tt
length-prot true true false = lit≤ tt
length-prot true false true = lit≤ tt
length-prot true false false = lit≤ tt
length-prot false true true = lit≤ tt
length-prot false true false = lit≤ tt
length-prot false false true = lit≤ tt
length-prot false false false = lit≤ tt

prot-short : (protection : Prot) → length (prot_word protection) ≤ 30
prot-short protection = length-prot protection.read protection.write protection.exec

-- flags with short names
record IsShortFlag (table : FlagNames) (bits : ℕ) : Type 0 where
  has : HasRows table bits
  fits : bits < 2 ^ 32
  short : length (printed table bits) ≤ 35

exactly-short : IsShortFlag map_flags exactly
unfolding printed map_flags
exactly-short = record { has = refl; fits = omega arith; short = lit≤ tt }

anywhere-short : IsShortFlag map_flags anywhere
unfolding printed map_flags
anywhere-short = record { has = refl; fits = omega arith; short = lit≤ tt }

may_move-short : IsShortFlag mremap_flags MREMAP_MAYMOVE
unfolding printed mremap_flags
may_move-short = record { has = refl; fits = omega arith; short = lit≤ tt }

mapping-loaded : (address bits draw : ℕ) → address < 2 ^ 64 → IsShortFlag map_flags bits → IsLoaded (mapping address bits draw)
unfolding mapping op_words call_words
mapping-loaded address bits draw fits flag =
    let len : length_of draw < 2 ^ 64 = omega arith in
    record {
      value = record { addr = fits; len = len; flags = flag.fits; low = omega (arith, ints); high = omega (arith, ints); offset = omega arith };
      names = flag.has;
      no_maps = refl;
      no_child = refl;
      room =
          let a = length-address address fits in
          let l = length-number (length_of draw) len in
          let p = prot-short (prot_of_bits (prot_bits_of draw)) in
          let f = flag.short in
          let one = length-decimal-le 1 1 (omega arith) (omega arith) (omega arith) in
          let none = length-decimal-le 1 0 (omega arith) (omega arith) (omega arith) in
          omega arith;
    }

unmap-loaded : (address len : ℕ) → address < 2 ^ 64 → len < 2 ^ 64 → IsLoaded (ops.Call (Munmap address len))
unfolding op_words call_words
unmap-loaded address len fits small = record {
  value = (fits, small);
  names = tt;
  no_maps = refl;
  no_child = refl;
  room = let a = length-address address fits in let l = length-number len small in omega arith;
}

protect-loaded : (address len : ℕ) (protection : Prot) → address < 2 ^ 64 → len < 2 ^ 64
    → IsLoaded (ops.Call (Mprotect address len protection))
unfolding op_words call_words
protect-loaded address len protection fits small = record {
  value = (fits, small);
  names = tt;
  no_maps = refl;
  no_child = refl;
  room =
      let a = length-address address fits in
      let l = length-number len small in
      let p = prot-short protection in
      omega arith;
}

move-loaded : (address len new : ℕ) → address < 2 ^ 64 → len < 2 ^ 64 → new < 2 ^ 64
    → IsLoaded (ops.Call (Mremap address len new MREMAP_MAYMOVE 0))
unfolding op_words call_words
move-loaded address len new fits small new_small = let flag = may_move-short in record {
  value = (fits, small, new_small, flag.fits, omega arith);
  names = (flag.has, λ _. refl);
  no_maps = refl;
  no_child = refl;
  room =
      let a = length-address address fits in
      let l = length-number len small in
      let n = length-number new new_small in
      let f = flag.short in
      omega arith;
}

length-access : (wanted : Access) → length (access_word wanted) ≤ 1
length-access Read = lit≤ tt
length-access Write = lit≤ tt
length-access Exec = lit≤ tt

fault-loaded : (page : ℕ) (wanted : Access) → page < 2 ^ 52 → IsLoaded (ops.Fault (record { 0 = page }) wanted)
unfolding op_words
fault-loaded page wanted small = record {
  value = small;
  names = tt;
  no_maps = refl;
  no_child = refl;
  room = let a = length-address (PAGE_SIZE * page) (omega arith) in let w = length-access wanted in omega arith;
}

-- each operation of a load
pub operation-loaded : (kind : Kind) (draw : ℕ) → IsLoaded (operation kind draw)
unfolding operation
operation-loaded MapExactly draw = mapping-loaded (drawn_address draw) exactly draw (omega arith) exactly-short
operation-loaded MapNear draw = mapping-loaded (drawn_address draw) anywhere draw (omega arith) anywhere-short
operation-loaded MapAnywhere draw = mapping-loaded 0 anywhere draw (omega arith) anywhere-short
operation-loaded Unmap draw = unmap-loaded (drawn_address draw) (length_of draw) (omega arith) (omega arith)
operation-loaded Protect draw =
    protect-loaded (drawn_address draw) (length_of draw) (prot_of_bits (prot_bits_of draw)) (omega arith) (omega arith)
operation-loaded Move draw =
    move-loaded (drawn_address draw) (length_of draw) (new_length_of draw) (omega arith) (omega arith) (omega arith)
operation-loaded kinds.Read draw = fault-loaded (drawn_address draw / PAGE_SIZE) Read (omega arith)
operation-loaded kinds.Write draw = fault-loaded (drawn_address draw / PAGE_SIZE) Write (omega arith)
