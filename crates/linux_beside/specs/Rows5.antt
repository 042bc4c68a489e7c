-- Rows of docs/KERNEL.md. Made by dev/make-linux-rules from examples/kernel-rows.txt.
use Rattle.std.specs.Prelude.{List, ◌∷◌, [], false, negsuc, Some, None, Ok, Err}
use Rattle.mm_types.specs.declared.area.Access.TheVariants.{Write}
use Rattle.linux_rules.specs.declared.verdict.LinuxVerdict.TheVariants.{MapErr, AccErr}
use Rattle.linux_rules.specs.Versions.{linux_6_1, linux_6_12, linux_6_16, linux_6_17, linux_6_18_15, linux_6_18, linux_7_2}
use Rattle.linux_rules.specs.Steps.{Map, Unmap, Protect, Remap, Break, Seal, Touch, Returned, Serves, Signal, Step, none, r, rw, plain, heap, kernel_step, config}
use Rattle.linux_rules.specs.Recorded.{IsAsRecorded}
use Rattle.linux_beside.specs.Sides.{IsByProfile, on_the_machine}

-- grow_denied
abbrev pub grow_denied_by_profile : List Step
grow_denied_by_profile =
    kernel_step 0 (Map 2097152 4096 r 306 (negsuc 0) 0) (Ok (Returned 2097152)) None
    ∷ kernel_step 0 (Touch 511 Write) (Ok (Signal AccErr)) (Some (plain 512 513 r ∷ []))
    ∷ []

-- grow_denied
abbrev pub grow_denied_by_linux : List Step
grow_denied_by_linux =
    kernel_step 0 (Map 2097152 4096 r 306 (negsuc 0) 0) (Ok (Returned 2097152)) None
    ∷ kernel_step 0 (Touch 511 Write) (Ok (Signal AccErr)) (Some (plain 511 513 r ∷ []))
    ∷ []

-- grow_denied: what the profile answers, and Linux
pub record GrowDenied : Type 0 where
  pub profile : IsByProfile (config 65536 140737354133504 65530 0 ([])) grow_denied_by_profile
  pub linux_6_1 : IsAsRecorded (on_the_machine linux_6_1 false (config 4096 140737354133504 65530 0 ([]))) grow_denied_by_linux
  pub linux_6_12 : IsAsRecorded (on_the_machine linux_6_12 false (config 4096 140737354133504 65530 0 ([]))) grow_denied_by_linux
  pub linux_6_16 : IsAsRecorded (on_the_machine linux_6_16 false (config 4096 140737354133504 65530 0 ([]))) grow_denied_by_linux
  pub linux_6_17 : IsAsRecorded (on_the_machine linux_6_17 false (config 4096 140737354133504 65530 0 ([]))) grow_denied_by_linux
  pub linux_6_18_15 : IsAsRecorded (on_the_machine linux_6_18_15 false (config 4096 140737354133504 65530 0 ([]))) grow_denied_by_linux
  pub linux_6_18 : IsAsRecorded (on_the_machine linux_6_18 false (config 4096 140737354133504 65530 0 ([]))) grow_denied_by_linux
  pub linux_7_2 : IsAsRecorded (on_the_machine linux_7_2 false (config 4096 140737354133504 65530 0 ([]))) grow_denied_by_linux

-- grow_large
abbrev pub grow_large_by_profile : List Step
grow_large_by_profile =
    kernel_step 0 (Map 268435456 8388608 rw 306 (negsuc 0) 0) (Ok (Returned 268435456)) None
    ∷ kernel_step 0 (Touch 65535 Write) (Ok (Serves 65535 67584 rw false 0)) (Some (plain 65535 67584 rw ∷ []))
    ∷ []

-- grow_large
abbrev pub grow_large_by_linux : List Step
grow_large_by_linux =
    kernel_step 0 (Map 268435456 8388608 rw 306 (negsuc 0) 0) (Ok (Returned 268435456)) None
    ∷ kernel_step 0 (Touch 65535 Write) (Ok (Signal MapErr)) (Some (plain 65536 67584 rw ∷ []))
    ∷ []

-- grow_large: what the profile answers, and Linux
pub record GrowLarge : Type 0 where
  pub profile : IsByProfile (config 65536 140737354133504 65530 0 ([])) grow_large_by_profile
  pub linux_6_1 : IsAsRecorded (on_the_machine linux_6_1 false (config 4096 140737354133504 65530 0 ([]))) grow_large_by_linux
  pub linux_6_12 : IsAsRecorded (on_the_machine linux_6_12 false (config 4096 140737354133504 65530 0 ([]))) grow_large_by_linux
  pub linux_6_16 : IsAsRecorded (on_the_machine linux_6_16 false (config 4096 140737354133504 65530 0 ([]))) grow_large_by_linux
  pub linux_6_17 : IsAsRecorded (on_the_machine linux_6_17 false (config 4096 140737354133504 65530 0 ([]))) grow_large_by_linux
  pub linux_6_18_15 : IsAsRecorded (on_the_machine linux_6_18_15 false (config 4096 140737354133504 65530 0 ([]))) grow_large_by_linux
  pub linux_6_18 : IsAsRecorded (on_the_machine linux_6_18 false (config 4096 140737354133504 65530 0 ([]))) grow_large_by_linux
  pub linux_7_2 : IsAsRecorded (on_the_machine linux_7_2 false (config 4096 140737354133504 65530 0 ([]))) grow_large_by_linux

-- grow_moved
abbrev pub grow_moved_by_profile : List Step
grow_moved_by_profile =
    kernel_step 0 (Map 65536 4096 rw 306 (negsuc 0) 0) (Ok (Returned 65536)) None
    ∷ kernel_step 0 (Touch 16 Write) (Ok (Serves 16 17 rw false 0)) None
    ∷ kernel_step 0 (Remap 65536 4096 4096 3 268435456) (Ok (Returned 268435456)) None
    ∷ kernel_step 0 (Touch 65535 Write) (Ok (Serves 65535 65537 rw false 0)) None
    ∷ kernel_step 0 (Touch 65534 Write) (Ok (Serves 65534 65537 rw false 0)) None
    ∷ kernel_step 0 (Touch 65533 Write) (Ok (Serves 65533 65537 rw false 0)) None
    ∷ kernel_step 0 (Touch 65532 Write) (Ok (Serves 65532 65537 rw false 0)) None
    ∷ kernel_step 0 (Touch 65531 Write) (Ok (Serves 65531 65537 rw false 0)) None
    ∷ kernel_step 0 (Touch 65530 Write) (Ok (Serves 65530 65537 rw false 0)) None
    ∷ kernel_step 0 (Touch 65529 Write) (Ok (Serves 65529 65537 rw false 0)) None
    ∷ kernel_step 0 (Touch 65528 Write) (Ok (Serves 65528 65537 rw false 0)) None
    ∷ kernel_step 0 (Touch 65527 Write) (Ok (Serves 65527 65537 rw false 0)) None
    ∷ kernel_step 0 (Touch 65526 Write) (Ok (Serves 65526 65537 rw false 0)) None
    ∷ kernel_step 0 (Touch 65525 Write) (Ok (Serves 65525 65537 rw false 0)) None
    ∷ kernel_step 0 (Touch 65524 Write) (Ok (Serves 65524 65537 rw false 0)) None
    ∷ kernel_step 0 (Touch 65523 Write) (Ok (Serves 65523 65537 rw false 0)) None
    ∷ kernel_step 0 (Touch 65522 Write) (Ok (Serves 65522 65537 rw false 0)) None
    ∷ kernel_step 0 (Touch 65521 Write) (Ok (Serves 65521 65537 rw false 0)) None
    ∷ kernel_step 0 (Touch 65520 Write) (Ok (Serves 65520 65537 rw false 0)) None
    ∷ kernel_step 0 (Touch 65519 Write) (Ok (Serves 65519 65537 rw false 0)) (Some (plain 65519 65537 rw ∷ []))
    ∷ []

-- grow_moved
abbrev pub grow_moved_by_linux : List Step
grow_moved_by_linux =
    kernel_step 0 (Map 65536 4096 rw 306 (negsuc 0) 0) (Ok (Returned 65536)) None
    ∷ kernel_step 0 (Touch 16 Write) (Ok (Serves 16 17 rw false 0)) None
    ∷ kernel_step 0 (Remap 65536 4096 4096 3 268435456) (Ok (Returned 268435456)) None
    ∷ kernel_step 0 (Touch 65535 Write) (Ok (Serves 65535 65537 rw false 0)) None
    ∷ kernel_step 0 (Touch 65534 Write) (Ok (Serves 65534 65537 rw false 0)) None
    ∷ kernel_step 0 (Touch 65533 Write) (Ok (Serves 65533 65537 rw false 0)) None
    ∷ kernel_step 0 (Touch 65532 Write) (Ok (Serves 65532 65537 rw false 0)) None
    ∷ kernel_step 0 (Touch 65531 Write) (Ok (Serves 65531 65537 rw false 0)) None
    ∷ kernel_step 0 (Touch 65530 Write) (Ok (Serves 65530 65537 rw false 0)) None
    ∷ kernel_step 0 (Touch 65529 Write) (Ok (Serves 65529 65537 rw false 0)) None
    ∷ kernel_step 0 (Touch 65528 Write) (Ok (Serves 65528 65537 rw false 0)) None
    ∷ kernel_step 0 (Touch 65527 Write) (Ok (Serves 65527 65537 rw false 0)) None
    ∷ kernel_step 0 (Touch 65526 Write) (Ok (Serves 65526 65537 rw false 0)) None
    ∷ kernel_step 0 (Touch 65525 Write) (Ok (Serves 65525 65537 rw false 0)) None
    ∷ kernel_step 0 (Touch 65524 Write) (Ok (Serves 65524 65537 rw false 0)) None
    ∷ kernel_step 0 (Touch 65523 Write) (Ok (Serves 65523 65537 rw false 0)) None
    ∷ kernel_step 0 (Touch 65522 Write) (Ok (Serves 65522 65537 rw false 0)) None
    ∷ kernel_step 0 (Touch 65521 Write) (Ok (Serves 65521 65537 rw false 0)) None
    ∷ kernel_step 0 (Touch 65520 Write) (Ok (Serves 65520 65537 rw false 0)) None
    ∷ kernel_step 0 (Touch 65519 Write) (Ok (Signal MapErr)) (Some (plain 65520 65537 rw ∷ []))
    ∷ []

-- grow_moved: what the profile answers, and Linux
pub record GrowMoved : Type 0 where
  pub profile : IsByProfile (config 65536 140737354133504 65530 0 ([])) grow_moved_by_profile
  pub linux_6_1 : IsAsRecorded (on_the_machine linux_6_1 false (config 4096 140737354133504 65530 0 ([]))) grow_moved_by_linux
  pub linux_6_12 : IsAsRecorded (on_the_machine linux_6_12 false (config 4096 140737354133504 65530 0 ([]))) grow_moved_by_linux
  pub linux_6_16 : IsAsRecorded (on_the_machine linux_6_16 false (config 4096 140737354133504 65530 0 ([]))) grow_moved_by_linux
  pub linux_6_17 : IsAsRecorded (on_the_machine linux_6_17 false (config 4096 140737354133504 65530 0 ([]))) grow_moved_by_linux
  pub linux_6_18_15 : IsAsRecorded (on_the_machine linux_6_18_15 false (config 4096 140737354133504 65530 0 ([]))) grow_moved_by_linux
  pub linux_6_18 : IsAsRecorded (on_the_machine linux_6_18 false (config 4096 140737354133504 65530 0 ([]))) grow_moved_by_linux
  pub linux_7_2 : IsAsRecorded (on_the_machine linux_7_2 false (config 4096 140737354133504 65530 0 ([]))) grow_moved_by_linux

-- grow_hint
abbrev pub grow_hint_by_profile : List Step
grow_hint_by_profile =
    kernel_step 0 (Map 2097152 4096 rw 306 (negsuc 0) 0) (Ok (Returned 2097152)) None
    ∷ kernel_step 0 (Map 1572864 4096 rw 34 (negsuc 0) 0) (Ok (Returned 1572864)) (Some (plain 384 385 rw ∷ plain 512 513 rw ∷ []))
    ∷ []

-- grow_hint
abbrev pub grow_hint_by_linux : List Step
grow_hint_by_linux =
    kernel_step 0 (Map 2097152 4096 rw 306 (negsuc 0) 0) (Ok (Returned 2097152)) None
    ∷ kernel_step 0 (Map 1572864 4096 rw 34 (negsuc 0) 0) (Ok (Returned 140737354129408)) (Some (plain 512 513 rw ∷ plain 34359705598 34359705599 rw ∷ []))
    ∷ []

-- grow_hint: what the profile answers, and Linux
pub record GrowHint : Type 0 where
  pub profile : IsByProfile (config 65536 140737354133504 65530 0 ([])) grow_hint_by_profile
  pub linux_6_1 : IsAsRecorded (on_the_machine linux_6_1 false (config 4096 140737354133504 65530 0 ([]))) grow_hint_by_linux
  pub linux_6_12 : IsAsRecorded (on_the_machine linux_6_12 false (config 4096 140737354133504 65530 0 ([]))) grow_hint_by_linux
  pub linux_6_16 : IsAsRecorded (on_the_machine linux_6_16 false (config 4096 140737354133504 65530 0 ([]))) grow_hint_by_linux
  pub linux_6_17 : IsAsRecorded (on_the_machine linux_6_17 false (config 4096 140737354133504 65530 0 ([]))) grow_hint_by_linux
  pub linux_6_18_15 : IsAsRecorded (on_the_machine linux_6_18_15 false (config 4096 140737354133504 65530 0 ([]))) grow_hint_by_linux
  pub linux_6_18 : IsAsRecorded (on_the_machine linux_6_18 false (config 4096 140737354133504 65530 0 ([]))) grow_hint_by_linux
  pub linux_7_2 : IsAsRecorded (on_the_machine linux_7_2 false (config 4096 140737354133504 65530 0 ([]))) grow_hint_by_linux

-- grow_search
abbrev pub grow_search_by_profile : List Step
grow_search_by_profile =
    kernel_step 0 (Map 140737354129408 4096 rw 306 (negsuc 0) 0) (Ok (Returned 140737354129408)) None
    ∷ kernel_step 0 (Map 0 4096 rw 34 (negsuc 0) 0) (Ok (Returned 140737354125312)) (Some (plain 34359705597 34359705598 rw ∷ plain 34359705598 34359705599 rw ∷ []))
    ∷ []

-- grow_search
abbrev pub grow_search_by_linux : List Step
grow_search_by_linux =
    kernel_step 0 (Map 140737354129408 4096 rw 306 (negsuc 0) 0) (Ok (Returned 140737354129408)) None
    ∷ kernel_step 0 (Map 0 4096 rw 34 (negsuc 0) 0) (Ok (Returned 140737353076736)) (Some (plain 34359705341 34359705342 rw ∷ plain 34359705598 34359705599 rw ∷ []))
    ∷ []

-- grow_search: what the profile answers, and Linux
pub record GrowSearch : Type 0 where
  pub profile : IsByProfile (config 65536 140737354133504 65530 0 ([])) grow_search_by_profile
  pub linux_6_1 : IsAsRecorded (on_the_machine linux_6_1 false (config 4096 140737354133504 65530 0 ([]))) grow_search_by_linux
  pub linux_6_12 : IsAsRecorded (on_the_machine linux_6_12 false (config 4096 140737354133504 65530 0 ([]))) grow_search_by_linux
  pub linux_6_16 : IsAsRecorded (on_the_machine linux_6_16 false (config 4096 140737354133504 65530 0 ([]))) grow_search_by_linux
  pub linux_6_17 : IsAsRecorded (on_the_machine linux_6_17 false (config 4096 140737354133504 65530 0 ([]))) grow_search_by_linux
  pub linux_6_18_15 : IsAsRecorded (on_the_machine linux_6_18_15 false (config 4096 140737354133504 65530 0 ([]))) grow_search_by_linux
  pub linux_6_18 : IsAsRecorded (on_the_machine linux_6_18 false (config 4096 140737354133504 65530 0 ([]))) grow_search_by_linux
  pub linux_7_2 : IsAsRecorded (on_the_machine linux_7_2 false (config 4096 140737354133504 65530 0 ([]))) grow_search_by_linux

-- grow_brk
abbrev pub grow_brk_by_profile : List Step
grow_brk_by_profile =
    kernel_step 0 (Map 1572864 4096 rw 306 (negsuc 0) 0) (Ok (Returned 1572864)) None
    ∷ kernel_step 0 (Break 1052672) (Ok (Returned 1052672)) (Some (heap 256 257 rw ∷ plain 384 385 rw ∷ []))
    ∷ []

-- grow_brk
abbrev pub grow_brk_by_linux : List Step
grow_brk_by_linux =
    kernel_step 0 (Map 1572864 4096 rw 306 (negsuc 0) 0) (Ok (Returned 1572864)) None
    ∷ kernel_step 0 (Break 1052672) (Ok (Returned 1048576)) (Some (plain 384 385 rw ∷ []))
    ∷ []

-- grow_brk: what the profile answers, and Linux
pub record GrowBrk : Type 0 where
  pub profile : IsByProfile (config 65536 140737354133504 65530 1048576 ([])) grow_brk_by_profile
  pub linux_6_1 : IsAsRecorded (on_the_machine linux_6_1 false (config 4096 140737354133504 65530 1048576 ([]))) grow_brk_by_linux
  pub linux_6_12 : IsAsRecorded (on_the_machine linux_6_12 false (config 4096 140737354133504 65530 1048576 ([]))) grow_brk_by_linux
  pub linux_6_16 : IsAsRecorded (on_the_machine linux_6_16 false (config 4096 140737354133504 65530 1048576 ([]))) grow_brk_by_linux
  pub linux_6_17 : IsAsRecorded (on_the_machine linux_6_17 false (config 4096 140737354133504 65530 1048576 ([]))) grow_brk_by_linux
  pub linux_6_18_15 : IsAsRecorded (on_the_machine linux_6_18_15 false (config 4096 140737354133504 65530 1048576 ([]))) grow_brk_by_linux
  pub linux_6_18 : IsAsRecorded (on_the_machine linux_6_18 false (config 4096 140737354133504 65530 1048576 ([]))) grow_brk_by_linux
  pub linux_7_2 : IsAsRecorded (on_the_machine linux_7_2 false (config 4096 140737354133504 65530 1048576 ([]))) grow_brk_by_linux

-- grow_search_moved
abbrev pub grow_search_moved_by_profile : List Step
grow_search_moved_by_profile =
    kernel_step 0 (Map 1048576 4096 rw 50 (negsuc 0) 0) (Ok (Returned 1048576)) None
    ∷ kernel_step 0 (Map 1052672 4096 r 50 (negsuc 0) 0) (Ok (Returned 1052672)) None
    ∷ kernel_step 0 (Map 140737354129408 4096 rw 306 (negsuc 0) 0) (Ok (Returned 140737354129408)) None
    ∷ kernel_step 0 (Remap 1048576 4096 8192 1 0) (Ok (Returned 140737354121216)) (Some (plain 257 258 r ∷ plain 34359705596 34359705598 rw ∷ plain 34359705598 34359705599 rw ∷ []))
    ∷ []

-- grow_search_moved
abbrev pub grow_search_moved_by_linux : List Step
grow_search_moved_by_linux =
    kernel_step 0 (Map 1048576 4096 rw 50 (negsuc 0) 0) (Ok (Returned 1048576)) None
    ∷ kernel_step 0 (Map 1052672 4096 r 50 (negsuc 0) 0) (Ok (Returned 1052672)) None
    ∷ kernel_step 0 (Map 140737354129408 4096 rw 306 (negsuc 0) 0) (Ok (Returned 140737354129408)) None
    ∷ kernel_step 0 (Remap 1048576 4096 8192 1 0) (Ok (Returned 140737353072640)) (Some (plain 257 258 r ∷ plain 34359705340 34359705342 rw ∷ plain 34359705598 34359705599 rw ∷ []))
    ∷ []

-- grow_search_moved: what the profile answers, and Linux
pub record GrowSearchMoved : Type 0 where
  pub profile : IsByProfile (config 65536 140737354133504 65530 0 ([])) grow_search_moved_by_profile
  pub linux_6_1 : IsAsRecorded (on_the_machine linux_6_1 false (config 4096 140737354133504 65530 0 ([]))) grow_search_moved_by_linux
  pub linux_6_12 : IsAsRecorded (on_the_machine linux_6_12 false (config 4096 140737354133504 65530 0 ([]))) grow_search_moved_by_linux
  pub linux_6_16 : IsAsRecorded (on_the_machine linux_6_16 false (config 4096 140737354133504 65530 0 ([]))) grow_search_moved_by_linux
  pub linux_6_17 : IsAsRecorded (on_the_machine linux_6_17 false (config 4096 140737354133504 65530 0 ([]))) grow_search_moved_by_linux
  pub linux_6_18_15 : IsAsRecorded (on_the_machine linux_6_18_15 false (config 4096 140737354133504 65530 0 ([]))) grow_search_moved_by_linux
  pub linux_6_18 : IsAsRecorded (on_the_machine linux_6_18 false (config 4096 140737354133504 65530 0 ([]))) grow_search_moved_by_linux
  pub linux_7_2 : IsAsRecorded (on_the_machine linux_7_2 false (config 4096 140737354133504 65530 0 ([]))) grow_search_moved_by_linux

-- brk_unmapped
abbrev pub brk_unmapped_by_profile : List Step
brk_unmapped_by_profile =
    kernel_step 0 (Break 1056768) (Ok (Returned 1056768)) None
    ∷ kernel_step 0 (Unmap 1048576 8192) (Ok (Returned 0)) None
    ∷ kernel_step 0 (Break 1048576) (Ok (Returned 1048576)) (Some ([]))
    ∷ []

-- brk_unmapped
abbrev pub brk_unmapped_by_linux : List Step
brk_unmapped_by_linux =
    kernel_step 0 (Break 1056768) (Ok (Returned 1056768)) None
    ∷ kernel_step 0 (Unmap 1048576 8192) (Ok (Returned 0)) None
    ∷ kernel_step 0 (Break 1048576) (Ok (Returned 1056768)) (Some ([]))
    ∷ []

-- brk_unmapped: what the profile answers, and Linux
pub record BrkUnmapped : Type 0 where
  pub profile : IsByProfile (config 65536 140737354133504 65530 1048576 ([])) brk_unmapped_by_profile
  pub linux_6_1 : IsAsRecorded (on_the_machine linux_6_1 false (config 4096 140737354133504 65530 1048576 ([]))) brk_unmapped_by_linux
  pub linux_6_12 : IsAsRecorded (on_the_machine linux_6_12 false (config 4096 140737354133504 65530 1048576 ([]))) brk_unmapped_by_linux
  pub linux_6_16 : IsAsRecorded (on_the_machine linux_6_16 false (config 4096 140737354133504 65530 1048576 ([]))) brk_unmapped_by_linux
  pub linux_6_17 : IsAsRecorded (on_the_machine linux_6_17 false (config 4096 140737354133504 65530 1048576 ([]))) brk_unmapped_by_linux
  pub linux_6_18_15 : IsAsRecorded (on_the_machine linux_6_18_15 false (config 4096 140737354133504 65530 1048576 ([]))) brk_unmapped_by_linux
  pub linux_6_18 : IsAsRecorded (on_the_machine linux_6_18 false (config 4096 140737354133504 65530 1048576 ([]))) brk_unmapped_by_linux
  pub linux_7_2 : IsAsRecorded (on_the_machine linux_7_2 false (config 4096 140737354133504 65530 1048576 ([]))) brk_unmapped_by_linux

-- brk_limit
abbrev pub brk_limit_by_profile : List Step
brk_limit_by_profile =
    kernel_step 0 (Break 140737488351232) (Ok (Returned 140737488343040)) (Some ([]))
    ∷ []

-- brk_limit
abbrev pub brk_limit_by_linux : List Step
brk_limit_by_linux =
    kernel_step 0 (Break 140737488351232) (Ok (Returned 140737488351232)) (Some (heap 34359738365 34359738367 rw ∷ []))
    ∷ []

-- brk_limit: what the profile answers, and Linux
pub record BrkLimit : Type 0 where
  pub profile : IsByProfile (config 65536 140737354133504 65530 140737488343040 ([])) brk_limit_by_profile
  pub linux_6_1 : IsAsRecorded (on_the_machine linux_6_1 false (config 4096 140737354133504 65530 140737488343040 ([]))) brk_limit_by_linux
  pub linux_6_12 : IsAsRecorded (on_the_machine linux_6_12 false (config 4096 140737354133504 65530 140737488343040 ([]))) brk_limit_by_linux
  pub linux_6_16 : IsAsRecorded (on_the_machine linux_6_16 false (config 4096 140737354133504 65530 140737488343040 ([]))) brk_limit_by_linux
  pub linux_6_17 : IsAsRecorded (on_the_machine linux_6_17 false (config 4096 140737354133504 65530 140737488343040 ([]))) brk_limit_by_linux
  pub linux_6_18_15 : IsAsRecorded (on_the_machine linux_6_18_15 false (config 4096 140737354133504 65530 140737488343040 ([]))) brk_limit_by_linux
  pub linux_6_18 : IsAsRecorded (on_the_machine linux_6_18 false (config 4096 140737354133504 65530 140737488343040 ([]))) brk_limit_by_linux
  pub linux_7_2 : IsAsRecorded (on_the_machine linux_7_2 false (config 4096 140737354133504 65530 140737488343040 ([]))) brk_limit_by_linux

-- brk_name
abbrev pub brk_name_by_profile : List Step
brk_name_by_profile =
    kernel_step 0 (Break 1064960) (Ok (Returned 1064960)) None
    ∷ kernel_step 0 (Unmap 1052672 4096) (Ok (Returned 0)) None
    ∷ kernel_step 0 (Map 1052672 4096 r 50 (negsuc 0) 0) (Ok (Returned 1052672)) (Some (heap 256 257 rw ∷ plain 257 258 r ∷ heap 258 260 rw ∷ []))
    ∷ []

-- brk_name
abbrev pub brk_name_by_linux : List Step
brk_name_by_linux =
    kernel_step 0 (Break 1064960) (Ok (Returned 1064960)) None
    ∷ kernel_step 0 (Unmap 1052672 4096) (Ok (Returned 0)) None
    ∷ kernel_step 0 (Map 1052672 4096 r 50 (negsuc 0) 0) (Ok (Returned 1052672)) (Some (heap 256 257 rw ∷ heap 257 258 r ∷ heap 258 260 rw ∷ []))
    ∷ []

-- brk_name: what the profile answers, and Linux
pub record BrkName : Type 0 where
  pub profile : IsByProfile (config 65536 140737354133504 65530 1048576 ([])) brk_name_by_profile
  pub linux_6_1 : IsAsRecorded (on_the_machine linux_6_1 false (config 4096 140737354133504 65530 1048576 ([]))) brk_name_by_linux
  pub linux_6_12 : IsAsRecorded (on_the_machine linux_6_12 false (config 4096 140737354133504 65530 1048576 ([]))) brk_name_by_linux
  pub linux_6_16 : IsAsRecorded (on_the_machine linux_6_16 false (config 4096 140737354133504 65530 1048576 ([]))) brk_name_by_linux
  pub linux_6_17 : IsAsRecorded (on_the_machine linux_6_17 false (config 4096 140737354133504 65530 1048576 ([]))) brk_name_by_linux
  pub linux_6_18_15 : IsAsRecorded (on_the_machine linux_6_18_15 false (config 4096 140737354133504 65530 1048576 ([]))) brk_name_by_linux
  pub linux_6_18 : IsAsRecorded (on_the_machine linux_6_18 false (config 4096 140737354133504 65530 1048576 ([]))) brk_name_by_linux
  pub linux_7_2 : IsAsRecorded (on_the_machine linux_7_2 false (config 4096 140737354133504 65530 1048576 ([]))) brk_name_by_linux

-- brk_moved
abbrev pub brk_moved_by_profile : List Step
brk_moved_by_profile =
    kernel_step 0 (Break 1056768) (Ok (Returned 1056768)) None
    ∷ kernel_step 0 (Remap 1052672 4096 4096 3 2097152) (Ok (Returned 2097152)) (Some (heap 256 257 rw ∷ heap 512 513 rw ∷ []))
    ∷ []

-- brk_moved
abbrev pub brk_moved_by_linux : List Step
brk_moved_by_linux =
    kernel_step 0 (Break 1056768) (Ok (Returned 1056768)) None
    ∷ kernel_step 0 (Remap 1052672 4096 4096 3 2097152) (Ok (Returned 2097152)) (Some (heap 256 257 rw ∷ plain 512 513 rw ∷ []))
    ∷ []

-- brk_moved: what the profile answers, and Linux
pub record BrkMoved : Type 0 where
  pub profile : IsByProfile (config 65536 140737354133504 65530 1048576 ([])) brk_moved_by_profile
  pub linux_6_1 : IsAsRecorded (on_the_machine linux_6_1 false (config 4096 140737354133504 65530 1048576 ([]))) brk_moved_by_linux
  pub linux_6_12 : IsAsRecorded (on_the_machine linux_6_12 false (config 4096 140737354133504 65530 1048576 ([]))) brk_moved_by_linux
  pub linux_6_16 : IsAsRecorded (on_the_machine linux_6_16 false (config 4096 140737354133504 65530 1048576 ([]))) brk_moved_by_linux
  pub linux_6_17 : IsAsRecorded (on_the_machine linux_6_17 false (config 4096 140737354133504 65530 1048576 ([]))) brk_moved_by_linux
  pub linux_6_18_15 : IsAsRecorded (on_the_machine linux_6_18_15 false (config 4096 140737354133504 65530 1048576 ([]))) brk_moved_by_linux
  pub linux_6_18 : IsAsRecorded (on_the_machine linux_6_18 false (config 4096 140737354133504 65530 1048576 ([]))) brk_moved_by_linux
  pub linux_7_2 : IsAsRecorded (on_the_machine linux_7_2 false (config 4096 140737354133504 65530 1048576 ([]))) brk_moved_by_linux

-- brk_hole
abbrev pub brk_hole_by_profile : List Step
brk_hole_by_profile =
    kernel_step 0 (Break 1060864) (Ok (Returned 1060864)) None
    ∷ kernel_step 0 (Unmap 1052672 4096) (Ok (Returned 0)) None
    ∷ kernel_step 0 (Map 1052672 4096 rw 50 (negsuc 0) 0) (Ok (Returned 1052672)) (Some (heap 256 257 rw ∷ plain 257 258 rw ∷ heap 258 259 rw ∷ []))
    ∷ []

-- brk_hole
abbrev pub brk_hole_by_linux : List Step
brk_hole_by_linux =
    kernel_step 0 (Break 1060864) (Ok (Returned 1060864)) None
    ∷ kernel_step 0 (Unmap 1052672 4096) (Ok (Returned 0)) None
    ∷ kernel_step 0 (Map 1052672 4096 rw 50 (negsuc 0) 0) (Ok (Returned 1052672)) (Some (heap 256 259 rw ∷ []))
    ∷ []

-- brk_hole: what the profile answers, and Linux
pub record BrkHole : Type 0 where
  pub profile : IsByProfile (config 65536 140737354133504 65530 1048576 ([])) brk_hole_by_profile
  pub linux_6_1 : IsAsRecorded (on_the_machine linux_6_1 false (config 4096 140737354133504 65530 1048576 ([]))) brk_hole_by_linux
  pub linux_6_12 : IsAsRecorded (on_the_machine linux_6_12 false (config 4096 140737354133504 65530 1048576 ([]))) brk_hole_by_linux
  pub linux_6_16 : IsAsRecorded (on_the_machine linux_6_16 false (config 4096 140737354133504 65530 1048576 ([]))) brk_hole_by_linux
  pub linux_6_17 : IsAsRecorded (on_the_machine linux_6_17 false (config 4096 140737354133504 65530 1048576 ([]))) brk_hole_by_linux
  pub linux_6_18_15 : IsAsRecorded (on_the_machine linux_6_18_15 false (config 4096 140737354133504 65530 1048576 ([]))) brk_hole_by_linux
  pub linux_6_18 : IsAsRecorded (on_the_machine linux_6_18 false (config 4096 140737354133504 65530 1048576 ([]))) brk_hole_by_linux
  pub linux_7_2 : IsAsRecorded (on_the_machine linux_7_2 false (config 4096 140737354133504 65530 1048576 ([]))) brk_hole_by_linux

-- brk_below
abbrev pub brk_below_by_profile : List Step
brk_below_by_profile =
    kernel_step 0 (Break 1052672) (Ok (Returned 1052672)) None
    ∷ kernel_step 0 (Map 1044480 4096 rw 50 (negsuc 0) 0) (Ok (Returned 1044480)) (Some (plain 255 256 rw ∷ heap 256 257 rw ∷ []))
    ∷ []

-- brk_below
abbrev pub brk_below_by_linux : List Step
brk_below_by_linux =
    kernel_step 0 (Break 1052672) (Ok (Returned 1052672)) None
    ∷ kernel_step 0 (Map 1044480 4096 rw 50 (negsuc 0) 0) (Ok (Returned 1044480)) (Some (heap 255 257 rw ∷ []))
    ∷ []

-- brk_below: what the profile answers, and Linux
pub record BrkBelow : Type 0 where
  pub profile : IsByProfile (config 65536 140737354133504 65530 1048576 ([])) brk_below_by_profile
  pub linux_6_1 : IsAsRecorded (on_the_machine linux_6_1 false (config 4096 140737354133504 65530 1048576 ([]))) brk_below_by_linux
  pub linux_6_12 : IsAsRecorded (on_the_machine linux_6_12 false (config 4096 140737354133504 65530 1048576 ([]))) brk_below_by_linux
  pub linux_6_16 : IsAsRecorded (on_the_machine linux_6_16 false (config 4096 140737354133504 65530 1048576 ([]))) brk_below_by_linux
  pub linux_6_17 : IsAsRecorded (on_the_machine linux_6_17 false (config 4096 140737354133504 65530 1048576 ([]))) brk_below_by_linux
  pub linux_6_18_15 : IsAsRecorded (on_the_machine linux_6_18_15 false (config 4096 140737354133504 65530 1048576 ([]))) brk_below_by_linux
  pub linux_6_18 : IsAsRecorded (on_the_machine linux_6_18 false (config 4096 140737354133504 65530 1048576 ([]))) brk_below_by_linux
  pub linux_7_2 : IsAsRecorded (on_the_machine linux_7_2 false (config 4096 140737354133504 65530 1048576 ([]))) brk_below_by_linux

-- seal_split
abbrev pub seal_split_by_profile : List Step
seal_split_by_profile =
    kernel_step 0 (Map 1048576 8192 rw 50 (negsuc 0) 0) (Ok (Returned 1048576)) None
    ∷ kernel_step 0 (Map 1056768 4096 r 50 (negsuc 0) 0) (Ok (Returned 1056768)) None
    ∷ kernel_step 0 (Seal 1056768 4096 0) (Ok (Returned 0)) None
    ∷ kernel_step 0 (Unmap 1052672 8192) (Err 1) (Some (plain 256 258 rw ∷ plain 258 259 r ∷ []))
    ∷ []

-- seal_split
abbrev pub seal_split_by_linux : List Step
seal_split_by_linux =
    kernel_step 0 (Map 1048576 8192 rw 50 (negsuc 0) 0) (Ok (Returned 1048576)) None
    ∷ kernel_step 0 (Map 1056768 4096 r 50 (negsuc 0) 0) (Ok (Returned 1056768)) None
    ∷ kernel_step 0 (Seal 1056768 4096 0) (Ok (Returned 0)) None
    ∷ kernel_step 0 (Unmap 1052672 8192) (Err 1) (Some (plain 256 257 rw ∷ plain 257 258 rw ∷ plain 258 259 r ∷ []))
    ∷ []

-- seal_split: what the profile answers, and Linux
pub record SealSplit : Type 0 where
  pub profile : IsByProfile (config 65536 140737354133504 65530 0 ([])) seal_split_by_profile
  pub linux_6_12 : IsAsRecorded (on_the_machine linux_6_12 false (config 4096 140737354133504 65530 0 ([]))) seal_split_by_linux
  pub linux_6_16 : IsAsRecorded (on_the_machine linux_6_16 false (config 4096 140737354133504 65530 0 ([]))) seal_split_by_linux
  pub linux_6_17 : IsAsRecorded (on_the_machine linux_6_17 false (config 4096 140737354133504 65530 0 ([]))) seal_split_by_linux
  pub linux_6_18_15 : IsAsRecorded (on_the_machine linux_6_18_15 false (config 4096 140737354133504 65530 0 ([]))) seal_split_by_linux
  pub linux_6_18 : IsAsRecorded (on_the_machine linux_6_18 false (config 4096 140737354133504 65530 0 ([]))) seal_split_by_linux
  pub linux_7_2 : IsAsRecorded (on_the_machine linux_7_2 false (config 4096 140737354133504 65530 0 ([]))) seal_split_by_linux

-- seal_prefix
abbrev pub seal_prefix_by_profile : List Step
seal_prefix_by_profile =
    kernel_step 0 (Map 1048576 4096 rw 50 (negsuc 0) 0) (Ok (Returned 1048576)) None
    ∷ kernel_step 0 (Map 1052672 4096 r 50 (negsuc 0) 0) (Ok (Returned 1052672)) None
    ∷ kernel_step 0 (Seal 1052672 4096 0) (Ok (Returned 0)) None
    ∷ kernel_step 0 (Protect 1048576 8192 none) (Err 1) (Some (plain 256 257 rw ∷ plain 257 258 r ∷ []))
    ∷ []

-- seal_prefix
abbrev pub seal_prefix_by_linux : List Step
seal_prefix_by_linux =
    kernel_step 0 (Map 1048576 4096 rw 50 (negsuc 0) 0) (Ok (Returned 1048576)) None
    ∷ kernel_step 0 (Map 1052672 4096 r 50 (negsuc 0) 0) (Ok (Returned 1052672)) None
    ∷ kernel_step 0 (Seal 1052672 4096 0) (Ok (Returned 0)) None
    ∷ kernel_step 0 (Protect 1048576 8192 none) (Err 1) (Some (plain 256 257 none ∷ plain 257 258 r ∷ []))
    ∷ []

-- seal_prefix: what the profile answers, and Linux
pub record SealPrefix : Type 0 where
  pub profile : IsByProfile (config 65536 140737354133504 65530 0 ([])) seal_prefix_by_profile
  pub linux_6_12 : IsAsRecorded (on_the_machine linux_6_12 false (config 4096 140737354133504 65530 0 ([]))) seal_prefix_by_linux
  pub linux_6_16 : IsAsRecorded (on_the_machine linux_6_16 false (config 4096 140737354133504 65530 0 ([]))) seal_prefix_by_linux
  pub linux_6_17 : IsAsRecorded (on_the_machine linux_6_17 false (config 4096 140737354133504 65530 0 ([]))) seal_prefix_by_linux
  pub linux_6_18_15 : IsAsRecorded (on_the_machine linux_6_18_15 false (config 4096 140737354133504 65530 0 ([]))) seal_prefix_by_linux
  pub linux_6_18 : IsAsRecorded (on_the_machine linux_6_18 false (config 4096 140737354133504 65530 0 ([]))) seal_prefix_by_linux
  pub linux_7_2 : IsAsRecorded (on_the_machine linux_7_2 false (config 4096 140737354133504 65530 0 ([]))) seal_prefix_by_linux

-- seal_hole
abbrev pub seal_hole_by_profile : List Step
seal_hole_by_profile =
    kernel_step 0 (Map 1048576 4096 rw 50 (negsuc 0) 0) (Ok (Returned 1048576)) None
    ∷ kernel_step 0 (Map 1056768 4096 rw 50 (negsuc 0) 0) (Ok (Returned 1056768)) None
    ∷ kernel_step 0 (Seal 1056768 4096 0) (Ok (Returned 0)) None
    ∷ kernel_step 0 (Protect 1048576 12288 r) (Err 1) (Some (plain 256 257 rw ∷ plain 258 259 rw ∷ []))
    ∷ []

-- seal_hole
abbrev pub seal_hole_by_linux : List Step
seal_hole_by_linux =
    kernel_step 0 (Map 1048576 4096 rw 50 (negsuc 0) 0) (Ok (Returned 1048576)) None
    ∷ kernel_step 0 (Map 1056768 4096 rw 50 (negsuc 0) 0) (Ok (Returned 1056768)) None
    ∷ kernel_step 0 (Seal 1056768 4096 0) (Ok (Returned 0)) None
    ∷ kernel_step 0 (Protect 1048576 12288 r) (Err 12) (Some (plain 256 257 r ∷ plain 258 259 rw ∷ []))
    ∷ []

-- seal_hole: what the profile answers, and Linux
pub record SealHole : Type 0 where
  pub profile : IsByProfile (config 65536 140737354133504 65530 0 ([])) seal_hole_by_profile
  pub linux_6_12 : IsAsRecorded (on_the_machine linux_6_12 false (config 4096 140737354133504 65530 0 ([]))) seal_hole_by_linux
  pub linux_6_16 : IsAsRecorded (on_the_machine linux_6_16 false (config 4096 140737354133504 65530 0 ([]))) seal_hole_by_linux
  pub linux_6_17 : IsAsRecorded (on_the_machine linux_6_17 false (config 4096 140737354133504 65530 0 ([]))) seal_hole_by_linux
  pub linux_6_18_15 : IsAsRecorded (on_the_machine linux_6_18_15 false (config 4096 140737354133504 65530 0 ([]))) seal_hole_by_linux
  pub linux_6_18 : IsAsRecorded (on_the_machine linux_6_18 false (config 4096 140737354133504 65530 0 ([]))) seal_hole_by_linux
  pub linux_7_2 : IsAsRecorded (on_the_machine linux_7_2 false (config 4096 140737354133504 65530 0 ([]))) seal_hole_by_linux

-- all rows of this file
pub record AllRows5 : Type 0 where
  pub grow_denied : GrowDenied
  pub grow_large : GrowLarge
  pub grow_moved : GrowMoved
  pub grow_hint : GrowHint
  pub grow_search : GrowSearch
  pub grow_brk : GrowBrk
  pub grow_search_moved : GrowSearchMoved
  pub brk_unmapped : BrkUnmapped
  pub brk_limit : BrkLimit
  pub brk_name : BrkName
  pub brk_moved : BrkMoved
  pub brk_hole : BrkHole
  pub brk_below : BrkBelow
  pub seal_split : SealSplit
  pub seal_prefix : SealPrefix
  pub seal_hole : SealHole
