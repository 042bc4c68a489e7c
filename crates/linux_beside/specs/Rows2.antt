-- Rows of docs/KERNEL.md. Made by dev/make-linux-rules from examples/kernel-rows.txt.
use Rattle.std.specs.Prelude.{List, ◌∷◌, [], true, false, pos, negsuc, Some, None, Ok, Err}
use Rattle.linux_rules.specs.Versions.{linux_6_1, linux_6_12, linux_6_16, linux_6_17, linux_6_18_15, linux_6_18, linux_7_2}
use Rattle.linux_rules.specs.Steps.{Map, Protect, Remap, Break, Returned, Step, r, rw, plain, filed, kernel_step, file_row, config}
use Rattle.linux_rules.specs.Recorded.{IsAsRecorded}
use Rattle.linux_beside.specs.Sides.{IsByProfile, on_the_machine}

-- overcommit
abbrev pub overcommit_by_linux : List Step
overcommit_by_linux =
    kernel_step 0 (Map 0 17592186044416 rw 34 (negsuc 0) 0) (Err 12) (Some ([]))
    ∷ []

-- overcommit: what the profile answers, and Linux
pub record Overcommit : Type 0 where
  pub linux_6_1 : IsAsRecorded (on_the_machine linux_6_1 false (config 4096 140737354133504 65530 0 ([]))) overcommit_by_linux
  pub linux_6_12 : IsAsRecorded (on_the_machine linux_6_12 false (config 4096 140737354133504 65530 0 ([]))) overcommit_by_linux
  pub linux_6_16 : IsAsRecorded (on_the_machine linux_6_16 false (config 4096 140737354133504 65530 0 ([]))) overcommit_by_linux
  pub linux_6_17 : IsAsRecorded (on_the_machine linux_6_17 false (config 4096 140737354133504 65530 0 ([]))) overcommit_by_linux
  pub linux_6_18_15 : IsAsRecorded (on_the_machine linux_6_18_15 false (config 4096 140737354133504 65530 0 ([]))) overcommit_by_linux
  pub linux_6_18 : IsAsRecorded (on_the_machine linux_6_18 false (config 4096 140737354133504 65530 0 ([]))) overcommit_by_linux
  pub linux_7_2 : IsAsRecorded (on_the_machine linux_7_2 false (config 4096 140737354133504 65530 0 ([]))) overcommit_by_linux

-- overcommit_mprotect
abbrev pub overcommit_mprotect_by_linux : List Step
overcommit_mprotect_by_linux =
    kernel_step 0 (Map 0 17592186044416 r 34 (negsuc 0) 0) (Ok (Returned 123145165996032)) None
    ∷ kernel_step 0 (Protect 123145168089088 17592186044416 rw) (Err 12) (Some (plain 30064737792 34359705088 r ∷ []))
    ∷ []

-- overcommit_mprotect
abbrev pub overcommit_mprotect_by_linux_6_1 : List Step
overcommit_mprotect_by_linux_6_1 =
    kernel_step 0 (Map 0 17592186044416 r 34 (negsuc 0) 0) (Ok (Returned 123145168089088)) None
    ∷ kernel_step 0 (Protect 123145168089088 17592186044416 rw) (Err 12) (Some (plain 30064738303 34359705599 r ∷ []))
    ∷ []

-- overcommit_mprotect: what the profile answers, and Linux
pub record OvercommitMprotect : Type 0 where
  pub linux_6_1 : IsAsRecorded (on_the_machine linux_6_1 false (config 4096 140737354133504 65530 0 ([]))) overcommit_mprotect_by_linux_6_1
  pub linux_6_12 : IsAsRecorded (on_the_machine linux_6_12 false (config 4096 140737354133504 65530 0 ([]))) overcommit_mprotect_by_linux
  pub linux_6_16 : IsAsRecorded (on_the_machine linux_6_16 false (config 4096 140737354133504 65530 0 ([]))) overcommit_mprotect_by_linux
  pub linux_6_17 : IsAsRecorded (on_the_machine linux_6_17 false (config 4096 140737354133504 65530 0 ([]))) overcommit_mprotect_by_linux
  pub linux_6_18_15 : IsAsRecorded (on_the_machine linux_6_18_15 false (config 4096 140737354133504 65530 0 ([]))) overcommit_mprotect_by_linux
  pub linux_6_18 : IsAsRecorded (on_the_machine linux_6_18 false (config 4096 140737354133504 65530 0 ([]))) overcommit_mprotect_by_linux
  pub linux_7_2 : IsAsRecorded (on_the_machine linux_7_2 false (config 4096 140737354133504 65530 0 ([]))) overcommit_mprotect_by_linux

-- overcommit_brk
abbrev pub overcommit_brk_by_linux : List Step
overcommit_brk_by_linux =
    kernel_step 0 (Break 70368745226240) (Ok (Returned 1048576)) (Some ([]))
    ∷ []

-- overcommit_brk: what the profile answers, and Linux
pub record OvercommitBrk : Type 0 where
  pub linux_6_1 : IsAsRecorded (on_the_machine linux_6_1 false (config 4096 140737354133504 65530 1048576 ([]))) overcommit_brk_by_linux
  pub linux_6_12 : IsAsRecorded (on_the_machine linux_6_12 false (config 4096 140737354133504 65530 1048576 ([]))) overcommit_brk_by_linux
  pub linux_6_16 : IsAsRecorded (on_the_machine linux_6_16 false (config 4096 140737354133504 65530 1048576 ([]))) overcommit_brk_by_linux
  pub linux_6_17 : IsAsRecorded (on_the_machine linux_6_17 false (config 4096 140737354133504 65530 1048576 ([]))) overcommit_brk_by_linux
  pub linux_6_18_15 : IsAsRecorded (on_the_machine linux_6_18_15 false (config 4096 140737354133504 65530 1048576 ([]))) overcommit_brk_by_linux
  pub linux_6_18 : IsAsRecorded (on_the_machine linux_6_18 false (config 4096 140737354133504 65530 1048576 ([]))) overcommit_brk_by_linux
  pub linux_7_2 : IsAsRecorded (on_the_machine linux_7_2 false (config 4096 140737354133504 65530 1048576 ([]))) overcommit_brk_by_linux

-- below_min
abbrev pub below_min_by_profile : List Step
below_min_by_profile =
    kernel_step 0 (Map 32768 4096 r 50 (negsuc 0) 0) (Err 1) (Some ([]))
    ∷ []

-- below_min
abbrev pub below_min_by_linux : List Step
below_min_by_linux =
    kernel_step 0 (Map 32768 4096 r 50 (negsuc 0) 0) (Ok (Returned 32768)) (Some (plain 8 9 r ∷ []))
    ∷ []

-- below_min: what the profile answers, and Linux
pub record BelowMin : Type 0 where
  pub profile : IsByProfile (config 65536 140737354133504 65530 0 ([])) below_min_by_profile
  pub linux_6_1 : IsAsRecorded (on_the_machine linux_6_1 false (config 4096 140737354133504 65530 0 ([]))) below_min_by_linux
  pub linux_6_12 : IsAsRecorded (on_the_machine linux_6_12 false (config 4096 140737354133504 65530 0 ([]))) below_min_by_linux
  pub linux_6_16 : IsAsRecorded (on_the_machine linux_6_16 false (config 4096 140737354133504 65530 0 ([]))) below_min_by_linux
  pub linux_6_17 : IsAsRecorded (on_the_machine linux_6_17 false (config 4096 140737354133504 65530 0 ([]))) below_min_by_linux
  pub linux_6_18_15 : IsAsRecorded (on_the_machine linux_6_18_15 false (config 4096 140737354133504 65530 0 ([]))) below_min_by_linux
  pub linux_6_18 : IsAsRecorded (on_the_machine linux_6_18 false (config 4096 140737354133504 65530 0 ([]))) below_min_by_linux
  pub linux_7_2 : IsAsRecorded (on_the_machine linux_7_2 false (config 4096 140737354133504 65530 0 ([]))) below_min_by_linux

-- hint_min
abbrev pub hint_min_by_profile : List Step
hint_min_by_profile =
    kernel_step 0 (Map 57344 4096 r 34 (negsuc 0) 0) (Ok (Returned 57344)) None
    ∷ kernel_step 0 (Map 57344 4096 rw 50 (negsuc 0) 0) (Ok (Returned 57344)) (Some (plain 14 15 rw ∷ []))
    ∷ []

-- hint_min
abbrev pub hint_min_by_linux : List Step
hint_min_by_linux =
    kernel_step 0 (Map 57344 4096 r 34 (negsuc 0) 0) (Ok (Returned 65536)) None
    ∷ kernel_step 0 (Map 57344 4096 rw 50 (negsuc 0) 0) (Ok (Returned 57344)) (Some (plain 14 15 rw ∷ plain 16 17 r ∷ []))
    ∷ []

-- hint_min: what the profile answers, and Linux
pub record HintMin : Type 0 where
  pub profile : IsByProfile (config 4096 140737354133504 65530 0 ([])) hint_min_by_profile
  pub linux_6_1 : IsAsRecorded (on_the_machine linux_6_1 false (config 4096 140737354133504 65530 0 ([]))) hint_min_by_linux
  pub linux_6_12 : IsAsRecorded (on_the_machine linux_6_12 false (config 4096 140737354133504 65530 0 ([]))) hint_min_by_linux
  pub linux_6_16 : IsAsRecorded (on_the_machine linux_6_16 false (config 4096 140737354133504 65530 0 ([]))) hint_min_by_linux
  pub linux_6_17 : IsAsRecorded (on_the_machine linux_6_17 false (config 4096 140737354133504 65530 0 ([]))) hint_min_by_linux
  pub linux_6_18_15 : IsAsRecorded (on_the_machine linux_6_18_15 false (config 4096 140737354133504 65530 0 ([]))) hint_min_by_linux
  pub linux_6_18 : IsAsRecorded (on_the_machine linux_6_18 false (config 4096 140737354133504 65530 0 ([]))) hint_min_by_linux
  pub linux_7_2 : IsAsRecorded (on_the_machine linux_7_2 false (config 4096 140737354133504 65530 0 ([]))) hint_min_by_linux

-- near_end
abbrev pub near_end_by_profile : List Step
near_end_by_profile =
    kernel_step 0 (Map 18446744073709551615 4096 r 50 (negsuc 0) 0) (Err 22) None
    ∷ kernel_step 0 (Map 18446744073709547528 4096 r 50 (negsuc 0) 0) (Err 22) (Some ([]))
    ∷ []

-- near_end
abbrev pub near_end_by_linux : List Step
near_end_by_linux =
    kernel_step 0 (Map 18446744073709551615 4096 r 50 (negsuc 0) 0) (Err 1) None
    ∷ kernel_step 0 (Map 18446744073709547528 4096 r 50 (negsuc 0) 0) (Err 4088) (Some ([]))
    ∷ []

-- near_end: what the profile answers, and Linux
pub record NearEnd : Type 0 where
  pub profile : IsByProfile (config 65536 140737354133504 65530 0 ([])) near_end_by_profile
  pub linux_6_1 : IsAsRecorded (on_the_machine linux_6_1 false (config 4096 140737354133504 65530 0 ([]))) near_end_by_linux
  pub linux_6_12 : IsAsRecorded (on_the_machine linux_6_12 false (config 4096 140737354133504 65530 0 ([]))) near_end_by_linux
  pub linux_6_16 : IsAsRecorded (on_the_machine linux_6_16 false (config 4096 140737354133504 65530 0 ([]))) near_end_by_linux
  pub linux_6_17 : IsAsRecorded (on_the_machine linux_6_17 false (config 4096 140737354133504 65530 0 ([]))) near_end_by_linux
  pub linux_6_18_15 : IsAsRecorded (on_the_machine linux_6_18_15 false (config 4096 140737354133504 65530 0 ([]))) near_end_by_linux
  pub linux_6_18 : IsAsRecorded (on_the_machine linux_6_18 false (config 4096 140737354133504 65530 0 ([]))) near_end_by_linux
  pub linux_7_2 : IsAsRecorded (on_the_machine linux_7_2 false (config 4096 140737354133504 65530 0 ([]))) near_end_by_linux

-- shared_validate
abbrev pub shared_validate_by_profile : List Step
shared_validate_by_profile =
    kernel_step 0 (Map 1048576 4096 r 19 (pos 3) 0) (Err 22) (Some ([]))
    ∷ []

-- shared_validate
abbrev pub shared_validate_by_linux : List Step
shared_validate_by_linux =
    kernel_step 0 (Map 1048576 4096 r 19 (pos 3) 0) (Ok (Returned 1048576)) (Some (filed 256 257 r true 0 1 ∷ []))
    ∷ []

-- shared_validate: what the profile answers, and Linux
pub record SharedValidate : Type 0 where
  pub profile : IsByProfile (config 65536 140737354133504 65530 0 (file_row 3 true false 4096 ∷ [])) shared_validate_by_profile
  pub linux_6_1 : IsAsRecorded (on_the_machine linux_6_1 false (config 4096 140737354133504 65530 0 (file_row 3 true false 4096 ∷ []))) shared_validate_by_linux
  pub linux_6_12 : IsAsRecorded (on_the_machine linux_6_12 false (config 4096 140737354133504 65530 0 (file_row 3 true false 4096 ∷ []))) shared_validate_by_linux
  pub linux_6_16 : IsAsRecorded (on_the_machine linux_6_16 false (config 4096 140737354133504 65530 0 (file_row 3 true false 4096 ∷ []))) shared_validate_by_linux
  pub linux_6_17 : IsAsRecorded (on_the_machine linux_6_17 false (config 4096 140737354133504 65530 0 (file_row 3 true false 4096 ∷ []))) shared_validate_by_linux
  pub linux_6_18_15 : IsAsRecorded (on_the_machine linux_6_18_15 false (config 4096 140737354133504 65530 0 (file_row 3 true false 4096 ∷ []))) shared_validate_by_linux
  pub linux_6_18 : IsAsRecorded (on_the_machine linux_6_18 false (config 4096 140737354133504 65530 0 (file_row 3 true false 4096 ∷ []))) shared_validate_by_linux
  pub linux_7_2 : IsAsRecorded (on_the_machine linux_7_2 false (config 4096 140737354133504 65530 0 (file_row 3 true false 4096 ∷ []))) shared_validate_by_linux

-- shared_validate_noreplace
abbrev pub shared_validate_noreplace_by_profile : List Step
shared_validate_noreplace_by_profile =
    kernel_step 0 (Map 1048576 4096 r 1048579 (pos 3) 0) (Err 22) (Some ([]))
    ∷ []

-- shared_validate_noreplace
abbrev pub shared_validate_noreplace_by_linux : List Step
shared_validate_noreplace_by_linux =
    kernel_step 0 (Map 1048576 4096 r 1048579 (pos 3) 0) (Err 95) (Some ([]))
    ∷ []

-- shared_validate_noreplace: what the profile answers, and Linux
pub record SharedValidateNoreplace : Type 0 where
  pub profile : IsByProfile (config 65536 140737354133504 65530 0 (file_row 3 true false 4096 ∷ [])) shared_validate_noreplace_by_profile
  pub linux_6_1 : IsAsRecorded (on_the_machine linux_6_1 false (config 4096 140737354133504 65530 0 (file_row 3 true false 4096 ∷ []))) shared_validate_noreplace_by_linux
  pub linux_6_12 : IsAsRecorded (on_the_machine linux_6_12 false (config 4096 140737354133504 65530 0 (file_row 3 true false 4096 ∷ []))) shared_validate_noreplace_by_linux
  pub linux_6_16 : IsAsRecorded (on_the_machine linux_6_16 false (config 4096 140737354133504 65530 0 (file_row 3 true false 4096 ∷ []))) shared_validate_noreplace_by_linux
  pub linux_6_17 : IsAsRecorded (on_the_machine linux_6_17 false (config 4096 140737354133504 65530 0 (file_row 3 true false 4096 ∷ []))) shared_validate_noreplace_by_linux
  pub linux_6_18_15 : IsAsRecorded (on_the_machine linux_6_18_15 false (config 4096 140737354133504 65530 0 (file_row 3 true false 4096 ∷ []))) shared_validate_noreplace_by_linux
  pub linux_6_18 : IsAsRecorded (on_the_machine linux_6_18 false (config 4096 140737354133504 65530 0 (file_row 3 true false 4096 ∷ []))) shared_validate_noreplace_by_linux
  pub linux_7_2 : IsAsRecorded (on_the_machine linux_7_2 false (config 4096 140737354133504 65530 0 (file_row 3 true false 4096 ∷ []))) shared_validate_noreplace_by_linux

-- mremap_too_long
abbrev pub mremap_too_long_by_linux : List Step
mremap_too_long_by_linux =
    kernel_step 0 (Map 1048576 4096 rw 50 (negsuc 0) 0) (Ok (Returned 1048576)) None
    ∷ kernel_step 0 (Remap 1048576 4096 140737488355328 1 0) (Err 22) (Some (plain 256 257 rw ∷ []))
    ∷ []

-- mremap_too_long
abbrev pub mremap_too_long_by_linux_6_1 : List Step
mremap_too_long_by_linux_6_1 =
    kernel_step 0 (Map 1048576 4096 rw 50 (negsuc 0) 0) (Ok (Returned 1048576)) None
    ∷ kernel_step 0 (Remap 1048576 4096 140737488355328 1 0) (Err 12) (Some (plain 256 257 rw ∷ []))
    ∷ []

-- mremap_too_long: what the profile answers, and Linux
pub record MremapTooLong : Type 0 where
  pub linux_6_1 : IsAsRecorded (on_the_machine linux_6_1 false (config 4096 140737354133504 65530 0 ([]))) mremap_too_long_by_linux_6_1
  pub linux_6_12 : IsAsRecorded (on_the_machine linux_6_12 false (config 4096 140737354133504 65530 0 ([]))) mremap_too_long_by_linux_6_1
  pub linux_6_16 : IsAsRecorded (on_the_machine linux_6_16 false (config 4096 140737354133504 65530 0 ([]))) mremap_too_long_by_linux_6_1
  pub linux_6_17 : IsAsRecorded (on_the_machine linux_6_17 false (config 4096 140737354133504 65530 0 ([]))) mremap_too_long_by_linux
  pub linux_6_18_15 : IsAsRecorded (on_the_machine linux_6_18_15 false (config 4096 140737354133504 65530 0 ([]))) mremap_too_long_by_linux
  pub linux_6_18 : IsAsRecorded (on_the_machine linux_6_18 false (config 4096 140737354133504 65530 0 ([]))) mremap_too_long_by_linux
  pub linux_7_2 : IsAsRecorded (on_the_machine linux_7_2 false (config 4096 140737354133504 65530 0 ([]))) mremap_too_long_by_linux

-- mremap_object_end
abbrev pub mremap_object_end_by_profile : List Step
mremap_object_end_by_profile =
    kernel_step 0 (Map 1048576 4096 r 18 (pos 3) 9223372036854767616) (Ok (Returned 1048576)) None
    ∷ kernel_step 0 (Remap 1048576 4096 8192 0 0) (Err 22) (Some (filed 256 257 r false 9223372036854767616 1 ∷ []))
    ∷ []

-- mremap_object_end
abbrev pub mremap_object_end_by_linux : List Step
mremap_object_end_by_linux =
    kernel_step 0 (Map 1048576 4096 r 18 (pos 3) 9223372036854767616) (Ok (Returned 1048576)) None
    ∷ kernel_step 0 (Remap 1048576 4096 8192 0 0) (Ok (Returned 1048576)) (Some (filed 256 258 r false 9223372036854767616 1 ∷ []))
    ∷ []

-- mremap_object_end: what the profile answers, and Linux
pub record MremapObjectEnd : Type 0 where
  pub profile : IsByProfile (config 65536 140737354133504 65530 0 (file_row 3 true false 4096 ∷ [])) mremap_object_end_by_profile
  pub linux_6_1 : IsAsRecorded (on_the_machine linux_6_1 false (config 4096 140737354133504 65530 0 (file_row 3 true false 4096 ∷ []))) mremap_object_end_by_linux
  pub linux_6_12 : IsAsRecorded (on_the_machine linux_6_12 false (config 4096 140737354133504 65530 0 (file_row 3 true false 4096 ∷ []))) mremap_object_end_by_linux
  pub linux_6_16 : IsAsRecorded (on_the_machine linux_6_16 false (config 4096 140737354133504 65530 0 (file_row 3 true false 4096 ∷ []))) mremap_object_end_by_linux
  pub linux_6_17 : IsAsRecorded (on_the_machine linux_6_17 false (config 4096 140737354133504 65530 0 (file_row 3 true false 4096 ∷ []))) mremap_object_end_by_linux
  pub linux_6_18_15 : IsAsRecorded (on_the_machine linux_6_18_15 false (config 4096 140737354133504 65530 0 (file_row 3 true false 4096 ∷ []))) mremap_object_end_by_linux
  pub linux_6_18 : IsAsRecorded (on_the_machine linux_6_18 false (config 4096 140737354133504 65530 0 (file_row 3 true false 4096 ∷ []))) mremap_object_end_by_linux
  pub linux_7_2 : IsAsRecorded (on_the_machine linux_7_2 false (config 4096 140737354133504 65530 0 (file_row 3 true false 4096 ∷ []))) mremap_object_end_by_linux

-- mremap_dontunmap
abbrev pub mremap_dontunmap_by_profile : List Step
mremap_dontunmap_by_profile =
    kernel_step 0 (Map 1048576 4096 rw 50 (negsuc 0) 0) (Ok (Returned 1048576)) None
    ∷ kernel_step 0 (Remap 1048576 4096 4096 5 0) (Err 22) (Some (plain 256 257 rw ∷ []))
    ∷ []

-- mremap_dontunmap
abbrev pub mremap_dontunmap_by_linux : List Step
mremap_dontunmap_by_linux =
    kernel_step 0 (Map 1048576 4096 rw 50 (negsuc 0) 0) (Ok (Returned 1048576)) None
    ∷ kernel_step 0 (Remap 1048576 4096 4096 5 0) (Ok (Returned 140737354129408)) (Some (plain 256 257 rw ∷ plain 34359705598 34359705599 rw ∷ []))
    ∷ []

-- mremap_dontunmap: what the profile answers, and Linux
pub record MremapDontunmap : Type 0 where
  pub profile : IsByProfile (config 65536 140737354133504 65530 0 ([])) mremap_dontunmap_by_profile
  pub linux_6_1 : IsAsRecorded (on_the_machine linux_6_1 false (config 4096 140737354133504 65530 0 ([]))) mremap_dontunmap_by_linux
  pub linux_6_12 : IsAsRecorded (on_the_machine linux_6_12 false (config 4096 140737354133504 65530 0 ([]))) mremap_dontunmap_by_linux
  pub linux_6_16 : IsAsRecorded (on_the_machine linux_6_16 false (config 4096 140737354133504 65530 0 ([]))) mremap_dontunmap_by_linux
  pub linux_6_17 : IsAsRecorded (on_the_machine linux_6_17 false (config 4096 140737354133504 65530 0 ([]))) mremap_dontunmap_by_linux
  pub linux_6_18_15 : IsAsRecorded (on_the_machine linux_6_18_15 false (config 4096 140737354133504 65530 0 ([]))) mremap_dontunmap_by_linux
  pub linux_6_18 : IsAsRecorded (on_the_machine linux_6_18 false (config 4096 140737354133504 65530 0 ([]))) mremap_dontunmap_by_linux
  pub linux_7_2 : IsAsRecorded (on_the_machine linux_7_2 false (config 4096 140737354133504 65530 0 ([]))) mremap_dontunmap_by_linux

-- mremap_old_zero
abbrev pub mremap_old_zero_by_profile : List Step
mremap_old_zero_by_profile =
    kernel_step 0 (Map 1048576 4096 rw 49 (negsuc 0) 0) (Ok (Returned 1048576)) None
    ∷ kernel_step 0 (Remap 1048576 0 4096 1 0) (Err 22) (Some (filed 256 257 rw true 0 1 ∷ []))
    ∷ []

-- mremap_old_zero
abbrev pub mremap_old_zero_by_linux : List Step
mremap_old_zero_by_linux =
    kernel_step 0 (Map 1048576 4096 rw 49 (negsuc 0) 0) (Ok (Returned 1048576)) None
    ∷ kernel_step 0 (Remap 1048576 0 4096 1 0) (Ok (Returned 140737354129408)) (Some (filed 256 257 rw true 0 1 ∷ filed 34359705598 34359705599 rw true 0 1 ∷ []))
    ∷ []

-- mremap_old_zero: what the profile answers, and Linux
pub record MremapOldZero : Type 0 where
  pub profile : IsByProfile (config 65536 140737354133504 65530 0 ([])) mremap_old_zero_by_profile
  pub linux_6_1 : IsAsRecorded (on_the_machine linux_6_1 false (config 4096 140737354133504 65530 0 ([]))) mremap_old_zero_by_linux
  pub linux_6_12 : IsAsRecorded (on_the_machine linux_6_12 false (config 4096 140737354133504 65530 0 ([]))) mremap_old_zero_by_linux
  pub linux_6_16 : IsAsRecorded (on_the_machine linux_6_16 false (config 4096 140737354133504 65530 0 ([]))) mremap_old_zero_by_linux
  pub linux_6_17 : IsAsRecorded (on_the_machine linux_6_17 false (config 4096 140737354133504 65530 0 ([]))) mremap_old_zero_by_linux
  pub linux_6_18_15 : IsAsRecorded (on_the_machine linux_6_18_15 false (config 4096 140737354133504 65530 0 ([]))) mremap_old_zero_by_linux
  pub linux_6_18 : IsAsRecorded (on_the_machine linux_6_18 false (config 4096 140737354133504 65530 0 ([]))) mremap_old_zero_by_linux
  pub linux_7_2 : IsAsRecorded (on_the_machine linux_7_2 false (config 4096 140737354133504 65530 0 ([]))) mremap_old_zero_by_linux

-- mremap_old_zero_private
abbrev pub mremap_old_zero_private_by_profile : List Step
mremap_old_zero_private_by_profile =
    kernel_step 0 (Map 1048576 4096 rw 50 (negsuc 0) 0) (Ok (Returned 1048576)) None
    ∷ kernel_step 0 (Remap 1048576 0 4096 1 0) (Err 22) (Some (plain 256 257 rw ∷ []))
    ∷ []

-- mremap_old_zero_private
abbrev pub mremap_old_zero_private_by_linux : List Step
mremap_old_zero_private_by_linux =
    kernel_step 0 (Map 1048576 4096 rw 50 (negsuc 0) 0) (Ok (Returned 1048576)) None
    ∷ kernel_step 0 (Remap 1048576 0 4096 1 0) (Err 22) (Some (plain 256 257 rw ∷ []))
    ∷ []

-- mremap_old_zero_private: what the profile answers, and Linux
pub record MremapOldZeroPrivate : Type 0 where
  pub profile : IsByProfile (config 65536 140737354133504 65530 0 ([])) mremap_old_zero_private_by_profile
  pub linux_6_1 : IsAsRecorded (on_the_machine linux_6_1 false (config 4096 140737354133504 65530 0 ([]))) mremap_old_zero_private_by_profile
  pub linux_6_12 : IsAsRecorded (on_the_machine linux_6_12 false (config 4096 140737354133504 65530 0 ([]))) mremap_old_zero_private_by_profile
  pub linux_6_16 : IsAsRecorded (on_the_machine linux_6_16 false (config 4096 140737354133504 65530 0 ([]))) mremap_old_zero_private_by_profile
  pub linux_6_17 : IsAsRecorded (on_the_machine linux_6_17 false (config 4096 140737354133504 65530 0 ([]))) mremap_old_zero_private_by_profile
  pub linux_6_18_15 : IsAsRecorded (on_the_machine linux_6_18_15 false (config 4096 140737354133504 65530 0 ([]))) mremap_old_zero_private_by_profile
  pub linux_6_18 : IsAsRecorded (on_the_machine linux_6_18 false (config 4096 140737354133504 65530 0 ([]))) mremap_old_zero_private_by_profile
  pub linux_7_2 : IsAsRecorded (on_the_machine linux_7_2 false (config 4096 140737354133504 65530 0 ([]))) mremap_old_zero_private_by_profile

-- mremap_old_wraps
abbrev pub mremap_old_wraps_by_profile : List Step
mremap_old_wraps_by_profile =
    kernel_step 0 (Map 1048576 4096 rw 49 (negsuc 0) 0) (Ok (Returned 1048576)) None
    ∷ kernel_step 0 (Remap 1048576 18446744073709551615 4096 1 0) (Err 14) (Some (filed 256 257 rw true 0 1 ∷ []))
    ∷ []

-- mremap_old_wraps
abbrev pub mremap_old_wraps_by_linux : List Step
mremap_old_wraps_by_linux =
    kernel_step 0 (Map 1048576 4096 rw 49 (negsuc 0) 0) (Ok (Returned 1048576)) None
    ∷ kernel_step 0 (Remap 1048576 18446744073709551615 4096 1 0) (Ok (Returned 140737354129408)) (Some (filed 256 257 rw true 0 1 ∷ filed 34359705598 34359705599 rw true 0 1 ∷ []))
    ∷ []

-- mremap_old_wraps: what the profile answers, and Linux
pub record MremapOldWraps : Type 0 where
  pub profile : IsByProfile (config 65536 140737354133504 65530 0 ([])) mremap_old_wraps_by_profile
  pub linux_6_1 : IsAsRecorded (on_the_machine linux_6_1 false (config 4096 140737354133504 65530 0 ([]))) mremap_old_wraps_by_linux
  pub linux_6_12 : IsAsRecorded (on_the_machine linux_6_12 false (config 4096 140737354133504 65530 0 ([]))) mremap_old_wraps_by_linux
  pub linux_6_16 : IsAsRecorded (on_the_machine linux_6_16 false (config 4096 140737354133504 65530 0 ([]))) mremap_old_wraps_by_linux
  pub linux_6_17 : IsAsRecorded (on_the_machine linux_6_17 false (config 4096 140737354133504 65530 0 ([]))) mremap_old_wraps_by_linux
  pub linux_6_18_15 : IsAsRecorded (on_the_machine linux_6_18_15 false (config 4096 140737354133504 65530 0 ([]))) mremap_old_wraps_by_linux
  pub linux_6_18 : IsAsRecorded (on_the_machine linux_6_18 false (config 4096 140737354133504 65530 0 ([]))) mremap_old_wraps_by_linux
  pub linux_7_2 : IsAsRecorded (on_the_machine linux_7_2 false (config 4096 140737354133504 65530 0 ([]))) mremap_old_wraps_by_linux

-- mremap_past_limit
abbrev pub mremap_past_limit_by_profile : List Step
mremap_past_limit_by_profile =
    kernel_step 0 (Map 140737488347136 4096 rw 50 (negsuc 0) 0) (Ok (Returned 140737488347136)) None
    ∷ kernel_step 0 (Remap 140737488347136 8192 8192 0 0) (Err 14) (Some (plain 34359738366 34359738367 rw ∷ []))
    ∷ []

-- mremap_past_limit
abbrev pub mremap_past_limit_by_linux : List Step
mremap_past_limit_by_linux =
    kernel_step 0 (Map 140737488347136 4096 rw 50 (negsuc 0) 0) (Ok (Returned 140737488347136)) None
    ∷ kernel_step 0 (Remap 140737488347136 8192 8192 0 0) (Ok (Returned 140737488347136)) (Some (plain 34359738366 34359738367 rw ∷ []))
    ∷ []

-- mremap_past_limit: what the profile answers, and Linux
pub record MremapPastLimit : Type 0 where
  pub profile : IsByProfile (config 65536 140737354133504 65530 0 ([])) mremap_past_limit_by_profile
  pub linux_6_1 : IsAsRecorded (on_the_machine linux_6_1 false (config 4096 140737354133504 65530 0 ([]))) mremap_past_limit_by_linux
  pub linux_6_12 : IsAsRecorded (on_the_machine linux_6_12 false (config 4096 140737354133504 65530 0 ([]))) mremap_past_limit_by_linux
  pub linux_6_16 : IsAsRecorded (on_the_machine linux_6_16 false (config 4096 140737354133504 65530 0 ([]))) mremap_past_limit_by_linux
  pub linux_6_17 : IsAsRecorded (on_the_machine linux_6_17 false (config 4096 140737354133504 65530 0 ([]))) mremap_past_limit_by_linux
  pub linux_6_18_15 : IsAsRecorded (on_the_machine linux_6_18_15 false (config 4096 140737354133504 65530 0 ([]))) mremap_past_limit_by_linux
  pub linux_6_18 : IsAsRecorded (on_the_machine linux_6_18 false (config 4096 140737354133504 65530 0 ([]))) mremap_past_limit_by_linux
  pub linux_7_2 : IsAsRecorded (on_the_machine linux_7_2 false (config 4096 140737354133504 65530 0 ([]))) mremap_past_limit_by_linux

-- mremap_past_limit_shrinks
abbrev pub mremap_past_limit_shrinks_by_profile : List Step
mremap_past_limit_shrinks_by_profile =
    kernel_step 0 (Map 140737488347136 4096 rw 50 (negsuc 0) 0) (Ok (Returned 140737488347136)) None
    ∷ kernel_step 0 (Remap 140737488347136 8192 4096 0 0) (Err 14) (Some (plain 34359738366 34359738367 rw ∷ []))
    ∷ []

-- mremap_past_limit_shrinks
abbrev pub mremap_past_limit_shrinks_by_linux : List Step
mremap_past_limit_shrinks_by_linux =
    kernel_step 0 (Map 140737488347136 4096 rw 50 (negsuc 0) 0) (Ok (Returned 140737488347136)) None
    ∷ kernel_step 0 (Remap 140737488347136 8192 4096 0 0) (Err 22) (Some (plain 34359738366 34359738367 rw ∷ []))
    ∷ []

-- mremap_past_limit_shrinks: what the profile answers, and Linux
pub record MremapPastLimitShrinks : Type 0 where
  pub profile : IsByProfile (config 65536 140737354133504 65530 0 ([])) mremap_past_limit_shrinks_by_profile
  pub linux_6_1 : IsAsRecorded (on_the_machine linux_6_1 false (config 4096 140737354133504 65530 0 ([]))) mremap_past_limit_shrinks_by_linux
  pub linux_6_12 : IsAsRecorded (on_the_machine linux_6_12 false (config 4096 140737354133504 65530 0 ([]))) mremap_past_limit_shrinks_by_linux
  pub linux_6_16 : IsAsRecorded (on_the_machine linux_6_16 false (config 4096 140737354133504 65530 0 ([]))) mremap_past_limit_shrinks_by_linux
  pub linux_6_17 : IsAsRecorded (on_the_machine linux_6_17 false (config 4096 140737354133504 65530 0 ([]))) mremap_past_limit_shrinks_by_linux
  pub linux_6_18_15 : IsAsRecorded (on_the_machine linux_6_18_15 false (config 4096 140737354133504 65530 0 ([]))) mremap_past_limit_shrinks_by_linux
  pub linux_6_18 : IsAsRecorded (on_the_machine linux_6_18 false (config 4096 140737354133504 65530 0 ([]))) mremap_past_limit_shrinks_by_linux
  pub linux_7_2 : IsAsRecorded (on_the_machine linux_7_2 false (config 4096 140737354133504 65530 0 ([]))) mremap_past_limit_shrinks_by_linux

-- all rows of this file
pub record AllRows2 : Type 0 where
  pub overcommit : Overcommit
  pub overcommit_mprotect : OvercommitMprotect
  pub overcommit_brk : OvercommitBrk
  pub below_min : BelowMin
  pub hint_min : HintMin
  pub near_end : NearEnd
  pub shared_validate : SharedValidate
  pub shared_validate_noreplace : SharedValidateNoreplace
  pub mremap_too_long : MremapTooLong
  pub mremap_object_end : MremapObjectEnd
  pub mremap_dontunmap : MremapDontunmap
  pub mremap_old_zero : MremapOldZero
  pub mremap_old_zero_private : MremapOldZeroPrivate
  pub mremap_old_wraps : MremapOldWraps
  pub mremap_past_limit : MremapPastLimit
  pub mremap_past_limit_shrinks : MremapPastLimitShrinks
