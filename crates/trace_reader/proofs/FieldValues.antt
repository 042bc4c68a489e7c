-- For `traces_fit`: the values of the fields of a line fit their types.
use Rattle.std.proofs.Common.{◌≡◌, ℕ, ◌-◌, ◌^◌, ◌<◌, ◌≤◌, ◌≤ℤ◌, ◌%◌, Bool, true, ◌&&◌, nat_eq, nat_le, List, drop, codes, bytes_eq, bit_and, ℤ, pos, negsuc, Option, Some, None, option_and_then, Result, Ok, Err, ok_or, IfOk, IfSome, if◌then◌else◌, refl, arith, lit<}
use Rattle.std.proofs.lemmas.Bool.{cond_both, and_parts, leb-true, eqb-true}
use Rattle.std.proofs.lemmas.Int.{ints}
use Rattle.std.proofs.lemmas.Nat.{and_le_r}
use Rattle.mm_types.specs.declared.config.TheConstants.{PAGE_SIZE, ADDRESS_LIMIT}
use Rattle.mm_types.specs.Config.{IsBound}
use Rattle.flag_table.specs.Laws.{IsSoundTable}
use Rattle.flag_table.specs.Reading.{reading}
use Rattle.flag_table.specs.Tables.{FlagNames, map_flags, mremap_flags, bits_of}
use Rattle.flag_table.specs.declared.error.NameError.{NameError}
use Rattle.flag_table.proofs.Sound.{map_is_sound, mremap_is_sound}
use Rattle.flag_table.proofs.Texts.{HasRows-reading}
use Rattle.text_lexer.specs.declared.error.Cause.{Cause}
use Rattle.text_lexer.specs.declared.error.Cause.TheVariants.{Number, Flag}
use Rattle.text_lexer.specs.Causes.{◌>>=◌}
use Rattle.text_lexer.specs.Numbers.{number, number_in, digits_of, number_of, decimal_of}
use Rattle.trace_reader.specs.Fields.{bound, descriptor, mapped_descriptor, or_flag, flags, read_thread}
use Rattle.trace_reader.specs.declared.limits.TheConstants.{GREATEST_THREAD}
use Rattle.text_lexer.proofs.Digits.{digits_of-Some}

-- what holds of an option's value, where there is one
some_from : {A : Type 0} (P : A → Type 0) (o : Option A) → ((x : A) → o ≡ Some x → P x) → IfSome o P
some_from P None h = tt
some_from P (Some x) h = h x refl

-- and of a result that is made of it
pub ok_or-holds : {A : Type 0} (P : A → Type 0) (o : Option A) (cause : Cause) → IfSome o P → IfOk (ok_or o cause) P
ok_or-holds P None cause h = tt
ok_or-holds P (Some x) cause h = h

-- what holds after a test
tested : (P Q : ℕ → Type 0) (test : ℕ → Bool) (cause : Cause) → ((n : ℕ) → P n → test n ≡ true → Q n)
    → (r : Result ℕ Cause) → IfOk r P
    → IfOk (r >>= λ n. if test n then Ok n else Err cause) Q
tested P Q test cause h (Ok n) p = cond_both (test n) (Ok n) (Err cause) (λ r. IfOk r Q) (λ e. h n p e) (λ e. tt)
tested P Q test cause h (Err c) p = tt

-- what holds of a changed value
changed : {A B : Type 0} (P : A → Type 0) (Q : B → Type 0) (f : A → B) → ((x : A) → P x → Q (f x))
    → (r : Result A Cause) → IfOk r P → IfOk (r >>= λ x. Ok (f x)) Q
changed P Q f h (Ok x) p = h x p
changed P Q f h (Err c) p = tt

-- a number below 2^64
abbrev pub IsWord : ℕ → Type 0
IsWord n = n < 2 ^ 64

number_of-value : (word : List ℕ) → IfSome (number_of word) IsWord
unfolding number_of
number_of-value word = cond_both _ (digits_of 16 16 (drop 2 word)) (digits_of 10 20 word) (λ o. IfSome o IsWord)
    (λ _. some_from IsWord (digits_of 16 16 (drop 2 word)) (λ n e.
    (digits_of-Some 16 16 (drop 2 word) n (omega arith) e).fits))
    (λ _. some_from IsWord (digits_of 10 20 word) (λ n e. (digits_of-Some 10 20 word n (omega arith) e).fits))

pub decimal_of-value : (word : List ℕ) → IfSome (decimal_of word) IsWord
decimal_of-value word = some_from IsWord (digits_of 10 20 word) (λ n e. (digits_of-Some 10 20 word n (omega arith) e).fits)

pub number-value : (word : List ℕ) → IfOk (number word) IsWord
unfolding number
number-value word = ok_or-holds IsWord (number_of word) Number (number_of-value word)

pub number_in-value : (low high : ℕ) (word : List ℕ) → IfOk (number_in low high word) (λ n. (low ≤ n) × (n ≤ high))
unfolding number_in
number_in-value low high word = tested IsWord (λ n. (low ≤ n) × (n ≤ high)) (λ n. nat_le low n && nat_le n high) Number
    (λ n fits e. (
      leb-true low n (and_parts (nat_le low n) (nat_le n high) e).0,
      leb-true n high
          (and_parts (nat_le low n) (nat_le n high) e).1,
    )) (number word) (number-value word)

-- an address that may bound the memory
is_bound : (address : ℕ) → (nat_eq (address % PAGE_SIZE) 0 &&
    (nat_le PAGE_SIZE address && nat_le address ADDRESS_LIMIT)) ≡ true → IsBound address
is_bound address e =
    let first = and_parts (nat_eq (address % PAGE_SIZE) 0)
    (nat_le PAGE_SIZE address && nat_le address ADDRESS_LIMIT) e in
    let rest = and_parts (nat_le PAGE_SIZE address) (nat_le address ADDRESS_LIMIT) first.1 in
    record {
      aligned = eqb-true (address % PAGE_SIZE) 0 first.0;
      above_zero =
          leb-true PAGE_SIZE address rest.0;
      within = leb-true address ADDRESS_LIMIT rest.1;
    }

pub bound-value : (word : List ℕ) → IfOk (bound word) IsBound
unfolding bound
bound-value word = tested IsWord IsBound (λ n. nat_eq (n % PAGE_SIZE) 0 &&
    (nat_le PAGE_SIZE n && nat_le n ADDRESS_LIMIT)) Number
    (λ n fits e. is_bound n e) (number word) (number-value word)

-- a descriptor, or -1
abbrev pub IsDescriptor : ℤ → Type 0
IsDescriptor fd = (negsuc 0 ≤ℤ fd) × (fd ≤ℤ pos (2 ^ 31 - 1))

pub descriptor-value : (word : List ℕ) → IfOk (descriptor word) IsDescriptor
unfolding descriptor
descriptor-value word = changed (λ n. (0 ≤ n) × (n ≤ 2 ^ 31 - 1)) IsDescriptor pos
    (λ n fits. (omega (arith, ints), omega (arith, ints, fits.1)))
    (number_in 0 (2 ^ 31 - 1) word) (number_in-value 0 (2 ^ 31 - 1) word)

pub mapped_descriptor-value : (word : List ℕ) → IfOk (mapped_descriptor word) IsDescriptor
unfolding mapped_descriptor
mapped_descriptor-value word = cond_both (bytes_eq word (codes "-1")) (Ok (negsuc 0)) (descriptor word)
    (λ r. IfOk r IsDescriptor)
    (λ _. (omega (arith, ints), omega (arith, ints))) (λ _. descriptor-value word)

-- flags fit 32 bits where all the bits of their table do
flags-value : (table : FlagNames) (word : List ℕ) → IsSoundTable table → bits_of table.rows < 2 ^ 32
    → IfOk (flags table word) (λ bits. bits < 2 ^ 32)
unfolding flags
flags-value table word sound small = by_reading (reading table word) refl
  where
    by_reading : (r : Result ℕ NameError) → reading table word ≡ r → IfOk (or_flag r) (λ bits. bits < 2 ^ 32)
    by_reading (Ok bits) e =
        let known : bit_and bits (bits_of table.rows) ≡ bits = HasRows-reading table word bits sound e in
        omega (arith, known, and_le_r bits (bits_of table.rows))
    by_reading (Err f) e = tt

small_map : bits_of map_flags.rows < 2 ^ 32
unfolding map_flags
small_map = lit< tt

small_mremap : bits_of mremap_flags.rows < 2 ^ 32
unfolding mremap_flags
small_mremap = lit< tt

pub map_flags-value : (word : List ℕ) → IfOk (flags map_flags word) (λ bits. bits < 2 ^ 32)
map_flags-value word = flags-value map_flags word map_is_sound small_map

pub mremap_flags-value : (word : List ℕ) → IfOk (flags mremap_flags word) (λ bits. bits < 2 ^ 32)
mremap_flags-value word = flags-value mremap_flags word mremap_is_sound small_mremap

pub thread_of-value : (word : List ℕ) → IfSome (read_thread word) (λ n. n < 64)
unfolding read_thread
thread_of-value word = of_option (digits_of 10 20 word)
  where
    of_option : (o : Option ℕ) → IfSome (option_and_then (λ n. if nat_le n GREATEST_THREAD then Some n else None) o) (λ n. n < 64)
    of_option None = tt
    of_option (Some n) = cond_both (nat_le n GREATEST_THREAD) (Some n) None (λ o. IfSome o (λ n. n < 64))
        (λ e. omega (arith, leb-true n GREATEST_THREAD e)) (λ _. tt)
