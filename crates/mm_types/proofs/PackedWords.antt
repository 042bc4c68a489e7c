-- Serves the laws of packed areas, and `unpack`.
use Rattle.std.proofs.Common.{ℕ, ◌≡◌, ◌≢◌, ◌<◌, ◌≤◌, ◌+◌, ◌*◌, zero, suc, ◌/◌, ◌%◌, ◌^◌, ap, subst, refl, Bool, true, false, ◌&&◌, if◌then◌else◌, nat_eq, nat_lt, List, [], ◌∷◌, length, All, Some, None, arith}
use Rattle.std.proofs.lemmas.Bool.Decides.{nat_tests}
use Rattle.mm_types.specs.declared.area.Attr.{Attr}
use Rattle.mm_types.specs.declared.area.Record.{Record}
use Rattle.mm_types.specs.Records.{IsValid}
use Rattle.mm_types.specs.Packed.{bit, prot_bits, attr_bits, packed, prot_at, attr_of, is_attached, is_valid, unpacked_record, unpacked}

-- a bit is 0 or 1
bit_small : (flag : Bool) → bit flag ≤ 1
bit_small true = omega arith
bit_small false = omega arith

-- a number's last bit, as a flag and as a bit again
bit_of_last : (n : ℕ) → bit (nat_eq (n % 2) 1) ≡ n % 2
bit_of_last n = grind (arith, nat_tests)

-- a flag whose bit is the number's last one
last_is_flag : (n : ℕ) (flag : Bool) → n % 2 ≡ bit flag → nat_eq (n % 2) 1 ≡ flag
last_is_flag n true last = grind (arith, nat_tests)
last_is_flag n false last = grind (arith, nat_tests)

-- the test of a valid record
pub valid_tests : (area : Record) → IsValid area → is_valid area ≡ true
unfolding is_valid
valid_tests area valid = grind (arith, nat_tests, valid)

-- what passes it is valid
pub tests_valid : (area : Record) → is_valid area ≡ true → IsValid area
unfolding is_valid
tests_valid area tests = record {
  some_pages = grind (arith, nat_tests);
  below_end = grind (arith, nat_tests);
  allowed = grind (arith, nat_tests);
  anonymous = λ zero. (grind (arith, nat_tests), grind (arith, nat_tests));
  backed = λ some. grind (arith, nat_tests);
}

-- the bits of a protection that stands in a word
prot_back : (word place : ℕ) → prot_bits (prot_at word place)
    ≡ word / 2 ^ place % 2 + 2 * (word / 2 ^ (place + 1) % 2) + 4 * (word / 2 ^ (place + 2) % 2)
unfolding prot_bits prot_at
prot_back word place = simp bit_of_last

-- the bits of the attributes that stand in a word
attr_back : (word : ℕ) → attr_bits (attr_of word)
    ≡ prot_bits (prot_at word 0) + 8 * prot_bits (prot_at word 3) + 64 * (word / 64 % 2) + 128 * (word / 128 % 2) + 256 * (word / 256 % 2) + 512 * (word / 512 % 2)
unfolding attr_bits attr_of
attr_back word = simp bit_of_last

-- they are the last ten bits of the word
attr_bits-attr_of : (word : ℕ) → attr_bits (attr_of word) ≡ word % 1024
attr_bits-attr_of word = omega (arith, attr_back word, prot_back word 0, prot_back word 3)

-- the first word of an area, from its parts
first_back : (word : ℕ) → is_attached word ≡ true → 65536 * (word / 65536) + 32768 + attr_bits (attr_of word) ≡ word
unfolding is_attached
first_back word attached = let last = attr_bits-attr_of word in grind (arith, nat_tests)

-- ten bits in a word below bit 15 and a page: each is read back
bits_read : (lo b0 b1 b2 b3 b4 b5 b6 b7 b8 b9 word : ℕ) → b0 ≤ 1 → b1 ≤ 1 → b2 ≤ 1 → b3 ≤ 1 → b4 ≤ 1 → b5 ≤ 1 → b6 ≤ 1 → b7 ≤ 1 → b8 ≤ 1 → b9 ≤ 1
    → word ≡ 65536 * lo + 32768 + b0 + 2 * b1 + 4 * b2 + 8 * b3 + 16 * b4 + 32 * b5 + 64 * b6 + 128 * b7 + 256 * b8 + 512 * b9
    → (word / 1 % 2 ≡ b0) × (word / 2 % 2 ≡ b1) × (word / 4 % 2 ≡ b2) × (word / 8 % 2 ≡ b3) × (word / 16 % 2 ≡ b4) × (word / 32 % 2 ≡ b5)
    × (word / 64 % 2 ≡ b6) × (word / 128 % 2 ≡ b7) × (word / 256 % 2 ≡ b8) × (word / 512 % 2 ≡ b9)
bits_read lo b0 b1 b2 b3 b4 b5 b6 b7 b8 b9 word s0 s1 s2 s3 s4 s5 s6 s7 s8 s9 sum =
    (omega arith, omega arith, omega arith, omega arith, omega arith, omega arith, omega arith, omega arith, omega arith, omega arith)

-- the attributes of a word that has their bits below bit 15 and a page
attr_of-attr_bits : (lo word : ℕ) (attr : Attr) → word ≡ 65536 * lo + 32768 + attr_bits attr → attr_of word ≡ attr
unfolding attr_of prot_at prot_bits attr_bits
attr_of-attr_bits lo word attr sum =
    let read = bits_read lo (bit attr.prot.read) (bit attr.prot.write) (bit attr.prot.exec)
    (bit attr.most.read) (bit attr.most.write) (bit attr.most.exec)
    (bit attr.shared) (bit attr.grows) (bit attr.sealed) (bit attr.heap) word
    (bit_small attr.prot.read) (bit_small attr.prot.write) (bit_small attr.prot.exec)
    (bit_small attr.most.read) (bit_small attr.most.write) (bit_small attr.most.exec)
    (bit_small attr.shared) (bit_small attr.grows) (bit_small attr.sealed) (bit_small attr.heap) (omega (arith, sum)) in
    let prot_read = last_is_flag (word / 1) attr.prot.read read.0 in
    let prot_write = last_is_flag (word / 2) attr.prot.write read.1 in
    let prot_exec = last_is_flag (word / 4) attr.prot.exec read.2 in
    let most_read = last_is_flag (word / 8) attr.most.read read.3 in
    let most_write = last_is_flag (word / 16) attr.most.write read.4 in
    let most_exec = last_is_flag (word / 32) attr.most.exec read.5 in
    let shared = last_is_flag (word / 64) attr.shared read.6 in
    let grows = last_is_flag (word / 128) attr.grows read.7 in
    let sealed = last_is_flag (word / 256) attr.sealed read.8 in
    let heap = last_is_flag (word / 512) attr.heap read.9 in
    rw (prot_read, prot_write, prot_exec, most_read, most_write, most_exec, shared, grows, sealed, heap)

-- ten bits are below 1024
attr_bits_below : (attr : Attr) → attr_bits attr < 1024
unfolding prot_bits attr_bits
attr_bits_below attr = omega (arith, bit_small)

-- the first word of an area is that of an area
attached : (lo bits : ℕ) → bits < 1024 → is_attached (65536 * lo + 32768 + bits) ≡ true
unfolding is_attached
attached lo bits below = grind (arith, nat_tests)

-- what a row's fields are, where they are those of an area
fields_of-packed : (area : Record) → unpacked_record (65536 * area.span.lo + 32768 + attr_bits area.attr) area.span.hi area.object area.offset ≡ area
unfolding unpacked_record
fields_of-packed area = let word = 65536 * area.span.lo + 32768 + attr_bits area.attr in
    let attr = attr_of-attr_bits area.span.lo word area.attr refl in
    let below = attr_bits_below area.attr in
    let lo : word / 65536 ≡ area.span.lo = omega arith in rw (attr, lo)

-- a valid area is unpacked from its words
pub unpacked-packed : (area : Record) → IsValid area → area.object < 2 ^ 32 → unpacked (packed area) ≡ Some area
unfolding packed unpacked
unpacked-packed area valid object =
    let below = attr_bits_below area.attr in
    let first = attached area.span.lo (attr_bits area.attr) below in
    let fields = fields_of-packed area in
    let tests = valid_tests area valid in
    let small : nat_lt area.object 4294967296 ≡ true = grind (arith, nat_tests) in
    rw (fields, first, small, tests)

-- what is given where a test holds
if_some : (test : Bool) (given area : Record) → (if test then Some given else None) ≡ Some area → (test ≡ true) × (given ≡ area)
if_some true given area is = (refl, cc)
if_some false given area is = absurd (cc)

-- three tests that hold together
all_three : (a b c : Bool) → a && (b && c) ≡ true → (a ≡ true) × (b ≡ true) × (c ≡ true)
all_three true true c all = (refl, refl, all)
all_three true false c all = absurd (cc)
all_three false b c all = absurd (cc)

-- the words of the record that four words spell, where the first is that of an area
packed-fields_of : (first hi object offset : ℕ) → is_attached first ≡ true
    → packed (unpacked_record first hi object offset) ≡ first ∷ hi ∷ object ∷ offset ∷ []
unfolding packed unpacked_record
packed-fields_of first hi object offset attached = ap (λ n. n ∷ hi ∷ object ∷ offset ∷ []) (first_back first attached)

-- the object of that record
object-fields_of : (first hi object offset : ℕ) → (unpacked_record first hi object offset).object ≡ object
unfolding unpacked_record
object-fields_of first hi object offset = refl

-- what four words are unpacked as
four_unpacked : (first hi object offset : ℕ) (area : Record) → unpacked (first ∷ hi ∷ object ∷ offset ∷ []) ≡ Some area
    → (packed area ≡ first ∷ hi ∷ object ∷ offset ∷ []) × IsValid area × (area.object < 2 ^ 32)
unfolding unpacked
four_unpacked first hi object offset area is =
    let read = unpacked_record first hi object offset in
    let given = if_some (is_attached first && (nat_lt object (2 ^ 32) && is_valid read)) read area is in
    let tests = all_three (is_attached first) (nat_lt object (2 ^ 32)) (is_valid read) given.0 in
    let small : object < 2 ^ 32 = grind (arith, nat_tests, tests.1) in
    subst (λ (r : Record). (packed r ≡ first ∷ hi ∷ object ∷ offset ∷ []) × IsValid r × (r.object < 2 ^ 32)) given.1
    (packed-fields_of first hi object offset tests.0, tests_valid read tests.2, rw (object-fields_of first hi object offset) small)

-- what words are unpacked as: a valid area whose words they are, with an object of 32 bits
pub unpacked_is : (words : List ℕ) (area : Record) → unpacked words ≡ Some area
    → (packed area ≡ words) × IsValid area × (area.object < 2 ^ 32)
unfolding unpacked
unpacked_is [] area is = absurd (cc)
unpacked_is (first ∷ []) area is = absurd (cc)
unpacked_is (first ∷ hi ∷ []) area is = absurd (cc)
unpacked_is (first ∷ hi ∷ object ∷ []) area is = absurd (cc)
unpacked_is (first ∷ hi ∷ object ∷ offset ∷ []) area is = four_unpacked first hi object offset area is
unpacked_is (first ∷ hi ∷ object ∷ offset ∷ more ∷ rest) area is = absurd (cc)

-- words that are unpacked as nothing are those of no valid area
pub unpacked_none : (words : List ℕ) (area : Record) → unpacked words ≡ None → IsValid area → area.object < 2 ^ 32 → packed area ≢ words
unpacked_none words area none valid object same = let some = unpacked-packed area valid object in cc

-- a detached row is no area
pub unpacked-detached : unpacked (0 ∷ 0 ∷ 0 ∷ 0 ∷ []) ≡ None
unfolding unpacked is_attached
unpacked-detached = refl

-- an area has four words
pub length-packed : (area : Record) → length (packed area) ≡ 4
unfolding packed
length-packed area = refl

-- four numbers below a bound
all_four : (bound a b c d : ℕ) → a < bound → b < bound → c < bound → d < bound → All (λ word. word < bound) (a ∷ b ∷ c ∷ d ∷ [])
all_four bound a b c d below_a below_b below_c below_d zero e within = below_a
all_four bound a b c d below_a below_b below_c below_d (suc zero) e within = below_b
all_four bound a b c d below_a below_b below_c below_d (suc (suc zero)) e within = below_c
all_four bound a b c d below_a below_b below_c below_d (suc (suc (suc zero))) e within = below_d
all_four bound a b c d below_a below_b below_c below_d (suc (suc (suc (suc k)))) e within = absurd (omega arith)

-- the words of a valid area have 64 bits
pub packed_small : (area : Record) → IsValid area → area.object < 2 ^ 32 → All (λ word. word < 2 ^ 64) (packed area)
unfolding packed
packed_small area valid object =
    let below = attr_bits_below area.attr in
    let offset : area.offset < 2 ^ 64 = grind (arith, valid) in
    all_four (2 ^ 64) (65536 * area.span.lo + 32768 + attr_bits area.attr) area.span.hi area.object area.offset
    (omega (arith, valid)) (omega (arith, valid)) (omega (arith, object)) offset
