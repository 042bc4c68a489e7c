-- For `traces_fit`: the values of the calls and operations of a line fit their types.
use Rattle.std.proofs.Common.{ℕ, ◌/◌, ◌^◌, ◌<◌, Bool, List, [], ◌∷◌, codes, bytes_eq, ℤ, Option, Some, None, Result, Ok, Err, ok_or, unwrap_or, IfOk, IfSome, if◌then◌else◌, arith}
use Rattle.std.proofs.lemmas.Bool.{cond_both}
use Rattle.mm_types.specs.declared.area.Access.{Access}
use Rattle.mm_types.specs.declared.area.Prot.{Prot}
use Rattle.mm_types.specs.declared.call.Call.{Call}
use Rattle.mm_types.specs.declared.call.Call.TheVariants.{Mmap, Munmap, Mprotect, Mremap, Brk, Mseal}
use Rattle.mm_types.specs.declared.config.TheConstants.{PAGE_SIZE}
use Rattle.trace_reader.specs.declared.trace.Op.TheVariants as ops
use Rattle.flag_table.specs.Tables.{map_flags, mremap_flags}
use Rattle.text_lexer.specs.declared.error.Cause.{Cause}
use Rattle.text_lexer.specs.declared.error.Cause.TheVariants.{Word, Number}
use Rattle.text_lexer.specs.Causes.{◌>>=◌}
use Rattle.trace_reader.specs.Calls.{read_mmap, mmap_of, read_munmap, munmap_of, read_mprotect, mprotect_of, number_if, read_mremap, mremap_of, brk_of, read_mseal, mseal_of, call_named}
use Rattle.text_lexer.specs.Numbers.{number, decimal_of}
use Rattle.trace_reader.specs.Fields.{mapped_descriptor, access, flags, read_prot, read_thread}
use Rattle.trace_reader.specs.Operations.{read_fault, fault_of, read_maps, read_fork, read_op_of_call, op_named, read_op, line_named}
use Rattle.trace_reader.specs.Values.{IsCallValue, IsOpValue}
use Rattle.trace_reader.proofs.FieldValues.{IsWord, IsDescriptor, ok_or-holds, number-value, decimal_of-value, thread_of-value, mapped_descriptor-value, map_flags-value, mremap_flags-value}

abbrev IsFlags : ℕ → Type 0
IsFlags bits = bits < 2 ^ 32

-- each call by the results of its fields
mmap_fits : (addr len : Result ℕ Cause) (allowed : Result Prot Cause) (bits : Result ℕ Cause) (fd : Result ℤ Cause)
    (offset : Result ℕ Cause)
    → IfOk addr IsWord → IfOk len IsWord → IfOk bits IsFlags → IfOk fd IsDescriptor → IfOk offset IsWord
    → IfOk (addr >>= λ a. len >>= λ l. allowed >>= λ p. bits >>= λ f. fd >>= λ d. offset >>= λ o.
    Ok (Mmap (record { addr = a; len = l; prot = p; flags = f; fd = d; offset = o }))) IsCallValue
mmap_fits (Ok a) (Ok l) (Ok p) (Ok f) (Ok d) (Ok o) ha hl hf hd ho =
    record { addr = ha; len = hl; flags = hf; low = hd.0; high = hd.1; offset = ho }
mmap_fits (Err c) len allowed bits fd offset ha hl hf hd ho = tt
mmap_fits (Ok a) (Err c) allowed bits fd offset ha hl hf hd ho = tt
mmap_fits (Ok a) (Ok l) (Err c) bits fd offset ha hl hf hd ho = tt
mmap_fits (Ok a) (Ok l) (Ok p) (Err c) fd offset ha hl hf hd ho = tt
mmap_fits (Ok a) (Ok l) (Ok p) (Ok f) (Err c) offset ha hl hf hd ho = tt
mmap_fits (Ok a) (Ok l) (Ok p) (Ok f) (Ok d) (Err c) ha hl hf hd ho = tt

munmap_fits : (addr len : Result ℕ Cause) → IfOk addr IsWord → IfOk len IsWord
    → IfOk (addr >>= λ a. len >>= λ l. Ok (Munmap a l)) IsCallValue
munmap_fits (Ok a) (Ok l) ha hl = (ha, hl)
munmap_fits (Err c) len ha hl = tt
munmap_fits (Ok a) (Err c) ha hl = tt

mprotect_fits : (addr len : Result ℕ Cause) (allowed : Result Prot Cause) → IfOk addr IsWord → IfOk len IsWord
    → IfOk (addr >>= λ a. len >>= λ l. allowed >>= λ p. Ok (Mprotect a l p)) IsCallValue
mprotect_fits (Ok a) (Ok l) (Ok p) ha hl = (ha, hl)
mprotect_fits (Err c) len allowed ha hl = tt
mprotect_fits (Ok a) (Err c) allowed ha hl = tt
mprotect_fits (Ok a) (Ok l) (Err c) ha hl = tt

new_or_none : (new : Option ℕ) → IfSome new IsWord → IsWord (unwrap_or new 0)
new_or_none None h = omega arith
new_or_none (Some new) h = h

mremap_fits : (old old_len new_len bits : Result ℕ Cause) (new : Result (Option ℕ) Cause) → IfOk old IsWord
    → IfOk old_len IsWord → IfOk new_len IsWord → IfOk bits IsFlags
    → IfOk new (λ o. IfSome o IsWord)
    → IfOk (old >>= λ o. old_len >>= λ l. new_len >>= λ n. bits >>= λ f. new >>= λ a.
    Ok (Mremap o l n f (unwrap_or a 0))) IsCallValue
mremap_fits (Ok o) (Ok l) (Ok n) (Ok f) (Ok a) ho hl hn hf ha = (ho, hl, hn, hf, new_or_none a ha)
mremap_fits (Err c) old_len new_len bits new ho hl hn hf ha = tt
mremap_fits (Ok o) (Err c) new_len bits new ho hl hn hf ha = tt
mremap_fits (Ok o) (Ok l) (Err c) bits new ho hl hn hf ha = tt
mremap_fits (Ok o) (Ok l) (Ok n) (Err c) new ho hl hn hf ha = tt
mremap_fits (Ok o) (Ok l) (Ok n) (Ok f) (Err c) ho hl hn hf ha = tt

mseal_fits : (addr len options : Result ℕ Cause) → IfOk addr IsWord → IfOk len IsWord → IfOk options IsWord
    → IfOk (addr >>= λ a. len >>= λ l. options >>= λ f. Ok (Mseal a l f)) IsCallValue
mseal_fits (Ok a) (Ok l) (Ok f) ha hl hf = (ha, hl, hf)
mseal_fits (Err c) len options ha hl hf = tt
mseal_fits (Ok a) (Err c) options ha hl hf = tt
mseal_fits (Ok a) (Ok l) (Err c) ha hl hf = tt

fault_fits : (addr : Result ℕ Cause) (wanted : Result Access Cause) → IfOk addr IsWord
    → IfOk (addr >>= λ a. wanted >>= λ w. Ok (ops.Fault (record { 0 = a / PAGE_SIZE }) w)) IsOpValue
fault_fits (Ok a) (Ok w) ha = omega (arith, ha)
fault_fits (Err c) wanted ha = tt
fault_fits (Ok a) (Err c) ha = tt

-- each form by its words
mmap_of-value : (words : List (List ℕ)) → IfOk (mmap_of words) IsCallValue
unfolding mmap_of read_mmap
mmap_of-value (addr ∷ len ∷ allowed ∷ kind ∷ fd ∷ offset ∷ []) =
    mmap_fits (number addr) (number len) (read_prot allowed) (flags map_flags kind) (mapped_descriptor fd) (number offset)
    (number-value addr) (number-value len) (map_flags-value kind) (mapped_descriptor-value fd) (number-value offset)
mmap_of-value _ = tt

munmap_of-value : (words : List (List ℕ)) → IfOk (munmap_of words) IsCallValue
unfolding munmap_of read_munmap
munmap_of-value (addr ∷ len ∷ []) = munmap_fits (number addr) (number len) (number-value addr) (number-value len)
munmap_of-value _ = tt

mprotect_of-value : (words : List (List ℕ)) → IfOk (mprotect_of words) IsCallValue
unfolding mprotect_of read_mprotect
mprotect_of-value (addr ∷ len ∷ allowed ∷ []) = mprotect_fits (number addr) (number len) (read_prot allowed)
    (number-value addr) (number-value len)
mprotect_of-value _ = tt

number_if-value : (word : Option (List ℕ)) → IfOk (number_if word) (λ o. IfSome o IsWord)
unfolding number_if
number_if-value None = tt
number_if-value (Some word) = by_number (number word) (number-value word)
  where
    by_number : (r : Result ℕ Cause) → IfOk r IsWord → IfOk (r >>= λ n. Ok (Some n)) (λ o. IfSome o IsWord)
    by_number (Ok n) h = h
    by_number (Err c) h = tt

mremap-value : (old old_len new_len how : List ℕ) (new : Option (List ℕ))
    → IfOk (read_mremap old old_len new_len how new) IsCallValue
unfolding read_mremap
mremap-value old old_len new_len how new = mremap_fits (number old) (number old_len) (number new_len)
    (flags mremap_flags how) (number_if new)
    (number-value old) (number-value old_len) (number-value new_len) (mremap_flags-value how) (number_if-value new)

mremap_of-value : (words : List (List ℕ)) → IfOk (mremap_of words) IsCallValue
unfolding mremap_of
mremap_of-value (old ∷ old_len ∷ new_len ∷ how ∷ []) = mremap-value old old_len new_len how None
mremap_of-value (old ∷ old_len ∷ new_len ∷ how ∷ new ∷ []) = mremap-value old old_len new_len how (Some new)
mremap_of-value _ = tt

-- what is read of one field
of_field : {A : Type 0} (P : A → Type 0) (make : ℕ → A) → ((n : ℕ) → IsWord n → P (make n)) → (r : Result ℕ Cause) → IfOk r IsWord
    → IfOk (r >>= λ n. Ok (make n)) P
of_field P make h (Ok n) fits = h n fits
of_field P make h (Err c) fits = tt

brk_of-value : (words : List (List ℕ)) → IfOk (brk_of words) IsCallValue
unfolding brk_of
brk_of-value (addr ∷ []) = of_field IsCallValue Brk (λ n h. h) (number addr) (number-value addr)
brk_of-value _ = tt

mseal_of-value : (words : List (List ℕ)) → IfOk (mseal_of words) IsCallValue
unfolding mseal_of read_mseal
mseal_of-value (addr ∷ len ∷ options ∷ []) = mseal_fits (number addr) (number len) (number options)
    (number-value addr) (number-value len) (number-value options)
mseal_of-value _ = tt

-- one of two readings
either : {A : Type 0} (P : A → Type 0) (test : Bool) (x y : Result A Cause) → IfOk x P → IfOk y P
    → IfOk (if test then x else y) P
either P test x y hx hy = cond_both test x y (λ r. IfOk r P) (λ _. hx) (λ _. hy)

call_named-value : (name : List ℕ) (words : List (List ℕ)) → IfOk (call_named name words) IsCallValue
unfolding call_named
call_named-value name words =
    either IsCallValue (bytes_eq name (codes "mmap")) (mmap_of words) _ (mmap_of-value words)
    (either IsCallValue (bytes_eq name (codes "munmap")) (munmap_of words) _ (munmap_of-value words)
    (either IsCallValue (bytes_eq name (codes "mprotect")) (mprotect_of words) _ (mprotect_of-value words)
    (either IsCallValue (bytes_eq name (codes "mremap")) (mremap_of words) (Err Word) (mremap_of-value words) tt)))

fault_of-value : (words : List (List ℕ)) → IfOk (fault_of words) IsOpValue
unfolding fault_of read_fault
fault_of-value (addr ∷ wanted ∷ []) = fault_fits (number addr) (access wanted) (number-value addr)
fault_of-value _ = tt

maps_of-value : (words : List (List ℕ)) → IfOk (read_maps words) IsOpValue
unfolding read_maps
maps_of-value [] = tt
maps_of-value _ = tt

call_op : (r : Result Call Cause) → IfOk r IsCallValue → IfOk (r >>= λ call. Ok (ops.Call call)) IsOpValue
call_op (Ok call) h = h
call_op (Err c) h = tt

fork_of-value : (words : List (List ℕ)) → IfOk (read_fork words) IsOpValue
unfolding read_fork
fork_of-value (child ∷ []) = forked (ok_or (read_thread child) Number) (ok_or-holds (λ n. n < 64) (read_thread child) Number (thread_of-value child))
  where
    forked : (r : Result ℕ Cause) → IfOk r (λ n. n < 64) → IfOk (r >>= λ c. Ok (ops.Fork c)) IsOpValue
    forked (Ok c) h = h
    forked (Err cause) h = tt
fork_of-value _ = tt

op_named-value : (name : List ℕ) (words : List (List ℕ)) → IfOk (op_named name words) IsOpValue
unfolding op_named
op_named-value name words =
    either IsOpValue (bytes_eq name (codes "fault")) (fault_of words) _ (fault_of-value words)
    (either IsOpValue (bytes_eq name (codes "maps")) (read_maps words) _ (maps_of-value words)
    (either IsOpValue (bytes_eq name (codes "fork")) (read_fork words) _ (fork_of-value words)
    (either IsOpValue (bytes_eq name (codes "brk")) (read_op_of_call (brk_of words)) _ (call_op (brk_of words) (brk_of-value words))
    (either IsOpValue (bytes_eq name (codes "mseal")) (read_op_of_call (mseal_of words)) _ (call_op (mseal_of words) (mseal_of-value words))
    (call_op (call_named name words) (call_named-value name words))))))

pub op_of-value : (words : List (List ℕ)) → IfOk (read_op words) IsOpValue
unfolding read_op
op_of-value [] = tt
op_of-value (name ∷ words) = op_named-value name words

pub line_named-value : (word : Option (List ℕ)) → IfOk (line_named word) (λ after. IfSome after IsWord)
unfolding line_named
line_named-value None = tt
line_named-value (Some word) = of_field (λ after. IfSome after IsWord) Some (λ n h. h) (ok_or (decimal_of word) Number)
    (ok_or-holds IsWord (decimal_of word) Number (decimal_of-value word))
