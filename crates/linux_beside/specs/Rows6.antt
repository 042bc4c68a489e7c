-- Rows of docs/KERNEL.md. Made by dev/make-linux-rules from examples/kernel-rows.txt.
use Rattle.std.specs.Prelude.{List, ◌∷◌, [], true, false, pos, negsuc, Some, None, Ok, Err}
use Rattle.mm_types.specs.declared.area.Access.TheVariants.{Write}
use Rattle.linux_rules.specs.Versions.{linux_6_1, linux_6_12, linux_6_16, linux_6_17, linux_6_18_15, linux_6_18, linux_7_2}
use Rattle.linux_rules.specs.Steps.{Map, Protect, Remap, Break, Seal, Touch, Fork, Returned, Serves, Step, none, r, rw, plain, heap, filed, kernel_step, file_row, config}
use Rattle.linux_rules.specs.Recorded.{IsAsRecorded}
use Rattle.linux_beside.specs.Sides.{IsByProfile, on_the_machine}

-- seal_denied
abbrev pub seal_denied_by_profile : List Step
seal_denied_by_profile =
    kernel_step 0 (Map 1048576 4096 r 17 (pos 3) 0) (Ok (Returned 1048576)) None
    ∷ kernel_step 0 (Seal 1048576 4096 0) (Ok (Returned 0)) None
    ∷ kernel_step 0 (Protect 1048576 4096 rw) (Err 1) (Some (filed 256 257 r true 0 1 ∷ []))
    ∷ []

-- seal_denied
abbrev pub seal_denied_by_linux : List Step
seal_denied_by_linux =
    kernel_step 0 (Map 1048576 4096 r 17 (pos 3) 0) (Ok (Returned 1048576)) None
    ∷ kernel_step 0 (Seal 1048576 4096 0) (Ok (Returned 0)) None
    ∷ kernel_step 0 (Protect 1048576 4096 rw) (Err 13) (Some (filed 256 257 r true 0 1 ∷ []))
    ∷ []

-- seal_denied: what the profile answers, and Linux
pub record SealDenied : Type 0 where
  pub profile : IsByProfile (config 65536 140737354133504 65530 0 (file_row 3 true false 4096 ∷ [])) seal_denied_by_profile
  pub linux_6_12 : IsAsRecorded (on_the_machine linux_6_12 false (config 4096 140737354133504 65530 0 (file_row 3 true false 4096 ∷ []))) seal_denied_by_linux
  pub linux_6_16 : IsAsRecorded (on_the_machine linux_6_16 false (config 4096 140737354133504 65530 0 (file_row 3 true false 4096 ∷ []))) seal_denied_by_linux
  pub linux_6_17 : IsAsRecorded (on_the_machine linux_6_17 false (config 4096 140737354133504 65530 0 (file_row 3 true false 4096 ∷ []))) seal_denied_by_linux
  pub linux_6_18_15 : IsAsRecorded (on_the_machine linux_6_18_15 false (config 4096 140737354133504 65530 0 (file_row 3 true false 4096 ∷ []))) seal_denied_by_linux
  pub linux_6_18 : IsAsRecorded (on_the_machine linux_6_18 false (config 4096 140737354133504 65530 0 (file_row 3 true false 4096 ∷ []))) seal_denied_by_linux
  pub linux_7_2 : IsAsRecorded (on_the_machine linux_7_2 false (config 4096 140737354133504 65530 0 (file_row 3 true false 4096 ∷ []))) seal_denied_by_linux

-- seal_kept
abbrev pub seal_kept_by_profile : List Step
seal_kept_by_profile =
    kernel_step 0 (Map 1048576 4096 rw 50 (negsuc 0) 0) (Ok (Returned 1048576)) None
    ∷ kernel_step 0 (Map 1052672 4096 r 50 (negsuc 0) 0) (Ok (Returned 1052672)) None
    ∷ kernel_step 0 (Seal 1052672 4096 0) (Ok (Returned 0)) None
    ∷ kernel_step 0 (Remap 1048576 8192 8192 0 0) (Err 1) (Some (plain 256 257 rw ∷ plain 257 258 r ∷ []))
    ∷ []

-- seal_kept
abbrev pub seal_kept_by_linux : List Step
seal_kept_by_linux =
    kernel_step 0 (Map 1048576 4096 rw 50 (negsuc 0) 0) (Ok (Returned 1048576)) None
    ∷ kernel_step 0 (Map 1052672 4096 r 50 (negsuc 0) 0) (Ok (Returned 1052672)) None
    ∷ kernel_step 0 (Seal 1052672 4096 0) (Ok (Returned 0)) None
    ∷ kernel_step 0 (Remap 1048576 8192 8192 0 0) (Ok (Returned 1048576)) (Some (plain 256 257 rw ∷ plain 257 258 r ∷ []))
    ∷ []

-- seal_kept: what the profile answers, and Linux
pub record SealKept : Type 0 where
  pub profile : IsByProfile (config 65536 140737354133504 65530 0 ([])) seal_kept_by_profile
  pub linux_6_12 : IsAsRecorded (on_the_machine linux_6_12 false (config 4096 140737354133504 65530 0 ([]))) seal_kept_by_linux
  pub linux_6_16 : IsAsRecorded (on_the_machine linux_6_16 false (config 4096 140737354133504 65530 0 ([]))) seal_kept_by_linux
  pub linux_6_17 : IsAsRecorded (on_the_machine linux_6_17 false (config 4096 140737354133504 65530 0 ([]))) seal_kept_by_linux
  pub linux_6_18_15 : IsAsRecorded (on_the_machine linux_6_18_15 false (config 4096 140737354133504 65530 0 ([]))) seal_kept_by_linux
  pub linux_6_18 : IsAsRecorded (on_the_machine linux_6_18 false (config 4096 140737354133504 65530 0 ([]))) seal_kept_by_linux
  pub linux_7_2 : IsAsRecorded (on_the_machine linux_7_2 false (config 4096 140737354133504 65530 0 ([]))) seal_kept_by_linux

-- seal_other_error
abbrev pub seal_other_error_by_profile : List Step
seal_other_error_by_profile =
    kernel_step 0 (Map 1048576 4096 rw 50 (negsuc 0) 0) (Ok (Returned 1048576)) None
    ∷ kernel_step 0 (Map 1052672 4096 r 50 (negsuc 0) 0) (Ok (Returned 1052672)) None
    ∷ kernel_step 0 (Seal 1048576 4096 0) (Ok (Returned 0)) None
    ∷ kernel_step 0 (Remap 1048576 4096 8192 0 0) (Err 12) (Some (plain 256 257 rw ∷ plain 257 258 r ∷ []))
    ∷ []

-- seal_other_error
abbrev pub seal_other_error_by_linux : List Step
seal_other_error_by_linux =
    kernel_step 0 (Map 1048576 4096 rw 50 (negsuc 0) 0) (Ok (Returned 1048576)) None
    ∷ kernel_step 0 (Map 1052672 4096 r 50 (negsuc 0) 0) (Ok (Returned 1052672)) None
    ∷ kernel_step 0 (Seal 1048576 4096 0) (Ok (Returned 0)) None
    ∷ kernel_step 0 (Remap 1048576 4096 8192 0 0) (Err 1) (Some (plain 256 257 rw ∷ plain 257 258 r ∷ []))
    ∷ []

-- seal_other_error: what the profile answers, and Linux
pub record SealOtherError : Type 0 where
  pub profile : IsByProfile (config 65536 140737354133504 65530 0 ([])) seal_other_error_by_profile
  pub linux_6_12 : IsAsRecorded (on_the_machine linux_6_12 false (config 4096 140737354133504 65530 0 ([]))) seal_other_error_by_linux
  pub linux_6_16 : IsAsRecorded (on_the_machine linux_6_16 false (config 4096 140737354133504 65530 0 ([]))) seal_other_error_by_linux
  pub linux_6_17 : IsAsRecorded (on_the_machine linux_6_17 false (config 4096 140737354133504 65530 0 ([]))) seal_other_error_by_linux
  pub linux_6_18_15 : IsAsRecorded (on_the_machine linux_6_18_15 false (config 4096 140737354133504 65530 0 ([]))) seal_other_error_by_linux
  pub linux_6_18 : IsAsRecorded (on_the_machine linux_6_18 false (config 4096 140737354133504 65530 0 ([]))) seal_other_error_by_linux
  pub linux_7_2 : IsAsRecorded (on_the_machine linux_7_2 false (config 4096 140737354133504 65530 0 ([]))) seal_other_error_by_linux

-- seal_dontunmap
abbrev pub seal_dontunmap_by_profile : List Step
seal_dontunmap_by_profile =
    kernel_step 0 (Map 1048576 4096 r 50 (negsuc 0) 0) (Ok (Returned 1048576)) None
    ∷ kernel_step 0 (Seal 1048576 4096 0) (Ok (Returned 0)) None
    ∷ kernel_step 0 (Remap 1048576 4096 4096 5 0) (Err 22) (Some (plain 256 257 r ∷ []))
    ∷ []

-- seal_dontunmap
abbrev pub seal_dontunmap_by_linux : List Step
seal_dontunmap_by_linux =
    kernel_step 0 (Map 1048576 4096 r 50 (negsuc 0) 0) (Ok (Returned 1048576)) None
    ∷ kernel_step 0 (Seal 1048576 4096 0) (Ok (Returned 0)) None
    ∷ kernel_step 0 (Remap 1048576 4096 4096 5 0) (Err 1) (Some (plain 256 257 r ∷ []))
    ∷ []

-- seal_dontunmap: what the profile answers, and Linux
pub record SealDontunmap : Type 0 where
  pub profile : IsByProfile (config 65536 140737354133504 65530 0 ([])) seal_dontunmap_by_profile
  pub linux_6_12 : IsAsRecorded (on_the_machine linux_6_12 false (config 4096 140737354133504 65530 0 ([]))) seal_dontunmap_by_linux
  pub linux_6_16 : IsAsRecorded (on_the_machine linux_6_16 false (config 4096 140737354133504 65530 0 ([]))) seal_dontunmap_by_linux
  pub linux_6_17 : IsAsRecorded (on_the_machine linux_6_17 false (config 4096 140737354133504 65530 0 ([]))) seal_dontunmap_by_linux
  pub linux_6_18_15 : IsAsRecorded (on_the_machine linux_6_18_15 false (config 4096 140737354133504 65530 0 ([]))) seal_dontunmap_by_linux
  pub linux_6_18 : IsAsRecorded (on_the_machine linux_6_18 false (config 4096 140737354133504 65530 0 ([]))) seal_dontunmap_by_linux
  pub linux_7_2 : IsAsRecorded (on_the_machine linux_7_2 false (config 4096 140737354133504 65530 0 ([]))) seal_dontunmap_by_linux

-- seal_fixed_cut
abbrev pub seal_fixed_cut_by_profile : List Step
seal_fixed_cut_by_profile =
    kernel_step 0 (Map 1048576 4096 rw 50 (negsuc 0) 0) (Ok (Returned 1048576)) None
    ∷ kernel_step 0 (Map 1052672 4096 r 50 (negsuc 0) 0) (Ok (Returned 1052672)) None
    ∷ kernel_step 0 (Map 2097152 4096 rw 50 (negsuc 0) 0) (Ok (Returned 2097152)) None
    ∷ kernel_step 0 (Seal 1052672 4096 0) (Ok (Returned 0)) None
    ∷ kernel_step 0 (Remap 1048576 8192 4096 3 2097152) (Err 1) (Some (plain 256 257 rw ∷ plain 257 258 r ∷ plain 512 513 rw ∷ []))
    ∷ []

-- seal_fixed_cut
abbrev pub seal_fixed_cut_by_linux : List Step
seal_fixed_cut_by_linux =
    kernel_step 0 (Map 1048576 4096 rw 50 (negsuc 0) 0) (Ok (Returned 1048576)) None
    ∷ kernel_step 0 (Map 1052672 4096 r 50 (negsuc 0) 0) (Ok (Returned 1052672)) None
    ∷ kernel_step 0 (Map 2097152 4096 rw 50 (negsuc 0) 0) (Ok (Returned 2097152)) None
    ∷ kernel_step 0 (Seal 1052672 4096 0) (Ok (Returned 0)) None
    ∷ kernel_step 0 (Remap 1048576 8192 4096 3 2097152) (Err 1) (Some (plain 256 257 rw ∷ plain 257 258 r ∷ []))
    ∷ []

-- seal_fixed_cut: what the profile answers, and Linux
pub record SealFixedCut : Type 0 where
  pub profile : IsByProfile (config 65536 140737354133504 65530 0 ([])) seal_fixed_cut_by_profile
  pub linux_6_12 : IsAsRecorded (on_the_machine linux_6_12 false (config 4096 140737354133504 65530 0 ([]))) seal_fixed_cut_by_linux
  pub linux_6_16 : IsAsRecorded (on_the_machine linux_6_16 false (config 4096 140737354133504 65530 0 ([]))) seal_fixed_cut_by_linux
  pub linux_6_17 : IsAsRecorded (on_the_machine linux_6_17 false (config 4096 140737354133504 65530 0 ([]))) seal_fixed_cut_by_linux
  pub linux_6_18_15 : IsAsRecorded (on_the_machine linux_6_18_15 false (config 4096 140737354133504 65530 0 ([]))) seal_fixed_cut_by_linux
  pub linux_6_18 : IsAsRecorded (on_the_machine linux_6_18 false (config 4096 140737354133504 65530 0 ([]))) seal_fixed_cut_by_linux
  pub linux_7_2 : IsAsRecorded (on_the_machine linux_7_2 false (config 4096 140737354133504 65530 0 ([]))) seal_fixed_cut_by_linux

-- seal_several
abbrev pub seal_several_by_profile : List Step
seal_several_by_profile =
    kernel_step 0 (Map 1048576 4096 rw 50 (negsuc 0) 0) (Ok (Returned 1048576)) None
    ∷ kernel_step 0 (Map 1052672 4096 r 50 (negsuc 0) 0) (Ok (Returned 1052672)) None
    ∷ kernel_step 0 (Seal 1052672 4096 0) (Ok (Returned 0)) None
    ∷ kernel_step 0 (Remap 1048576 8192 8192 3 2097152) (Err 14) (Some (plain 256 257 rw ∷ plain 257 258 r ∷ []))
    ∷ []

-- seal_several
abbrev pub seal_several_by_linux : List Step
seal_several_by_linux =
    kernel_step 0 (Map 1048576 4096 rw 50 (negsuc 0) 0) (Ok (Returned 1048576)) None
    ∷ kernel_step 0 (Map 1052672 4096 r 50 (negsuc 0) 0) (Ok (Returned 1052672)) None
    ∷ kernel_step 0 (Seal 1052672 4096 0) (Ok (Returned 0)) None
    ∷ kernel_step 0 (Remap 1048576 8192 8192 3 2097152) (Err 1) (Some (plain 257 258 r ∷ plain 512 513 rw ∷ []))
    ∷ []

-- seal_several: what the profile answers, and Linux
pub record SealSeveral : Type 0 where
  pub profile : IsByProfile (config 65536 140737354133504 65530 0 ([])) seal_several_by_profile
  pub linux_6_12 : IsAsRecorded (on_the_machine linux_6_12 false (config 4096 140737354133504 65530 0 ([]))) seal_several_by_profile
  pub linux_6_16 : IsAsRecorded (on_the_machine linux_6_16 false (config 4096 140737354133504 65530 0 ([]))) seal_several_by_profile
  pub linux_6_17 : IsAsRecorded (on_the_machine linux_6_17 false (config 4096 140737354133504 65530 0 ([]))) seal_several_by_linux
  pub linux_6_18_15 : IsAsRecorded (on_the_machine linux_6_18_15 false (config 4096 140737354133504 65530 0 ([]))) seal_several_by_linux
  pub linux_6_18 : IsAsRecorded (on_the_machine linux_6_18 false (config 4096 140737354133504 65530 0 ([]))) seal_several_by_linux
  pub linux_7_2 : IsAsRecorded (on_the_machine linux_7_2 false (config 4096 140737354133504 65530 0 ([]))) seal_several_by_linux

-- seal_fixed
abbrev pub seal_fixed_by_profile : List Step
seal_fixed_by_profile =
    kernel_step 0 (Map 1048576 8192 rw 50 (negsuc 0) 0) (Ok (Returned 1048576)) None
    ∷ kernel_step 0 (Map 1056768 4096 r 50 (negsuc 0) 0) (Ok (Returned 1056768)) None
    ∷ kernel_step 0 (Seal 1056768 4096 0) (Ok (Returned 0)) None
    ∷ kernel_step 0 (Map 1052672 8192 none 50 (negsuc 0) 0) (Err 1) (Some (plain 256 258 rw ∷ plain 258 259 r ∷ []))
    ∷ []

-- seal_fixed
abbrev pub seal_fixed_by_linux : List Step
seal_fixed_by_linux =
    kernel_step 0 (Map 1048576 8192 rw 50 (negsuc 0) 0) (Ok (Returned 1048576)) None
    ∷ kernel_step 0 (Map 1056768 4096 r 50 (negsuc 0) 0) (Ok (Returned 1056768)) None
    ∷ kernel_step 0 (Seal 1056768 4096 0) (Ok (Returned 0)) None
    ∷ kernel_step 0 (Map 1052672 8192 none 50 (negsuc 0) 0) (Err 1) (Some (plain 256 257 rw ∷ plain 257 258 rw ∷ plain 258 259 r ∷ []))
    ∷ []

-- seal_fixed: what the profile answers, and Linux
pub record SealFixed : Type 0 where
  pub profile : IsByProfile (config 65536 140737354133504 65530 0 ([])) seal_fixed_by_profile
  pub linux_6_12 : IsAsRecorded (on_the_machine linux_6_12 false (config 4096 140737354133504 65530 0 ([]))) seal_fixed_by_linux
  pub linux_6_16 : IsAsRecorded (on_the_machine linux_6_16 false (config 4096 140737354133504 65530 0 ([]))) seal_fixed_by_linux
  pub linux_6_17 : IsAsRecorded (on_the_machine linux_6_17 false (config 4096 140737354133504 65530 0 ([]))) seal_fixed_by_linux
  pub linux_6_18_15 : IsAsRecorded (on_the_machine linux_6_18_15 false (config 4096 140737354133504 65530 0 ([]))) seal_fixed_by_linux
  pub linux_6_18 : IsAsRecorded (on_the_machine linux_6_18 false (config 4096 140737354133504 65530 0 ([]))) seal_fixed_by_linux
  pub linux_7_2 : IsAsRecorded (on_the_machine linux_7_2 false (config 4096 140737354133504 65530 0 ([]))) seal_fixed_by_linux

-- fork_written
abbrev pub fork_written_by_profile : List Step
fork_written_by_profile =
    kernel_step 0 (Map 1048576 4096 rw 50 (negsuc 0) 0) (Ok (Returned 1048576)) None
    ∷ kernel_step 0 (Touch 256 Write) (Ok (Serves 256 257 rw false 0)) None
    ∷ kernel_step 0 (Fork 1) (Ok (Returned 0)) (Some (plain 256 257 rw ∷ []))
    ∷ kernel_step 1 (Map 1052672 4096 rw 50 (negsuc 0) 0) (Ok (Returned 1052672)) (Some (plain 256 258 rw ∷ []))
    ∷ []

-- fork_written
abbrev pub fork_written_by_linux : List Step
fork_written_by_linux =
    kernel_step 0 (Map 1048576 4096 rw 50 (negsuc 0) 0) (Ok (Returned 1048576)) None
    ∷ kernel_step 0 (Touch 256 Write) (Ok (Serves 256 257 rw false 0)) None
    ∷ kernel_step 0 (Fork 1) (Ok (Returned 0)) (Some (plain 256 257 rw ∷ []))
    ∷ kernel_step 1 (Map 1052672 4096 rw 50 (negsuc 0) 0) (Ok (Returned 1052672)) (Some (plain 256 257 rw ∷ plain 257 258 rw ∷ []))
    ∷ []

-- fork_written: what the profile answers, and Linux
pub record ForkWritten : Type 0 where
  pub profile : IsByProfile (config 65536 140737354133504 65530 0 ([])) fork_written_by_profile
  pub linux_6_1 : IsAsRecorded (on_the_machine linux_6_1 false (config 4096 140737354133504 65530 0 ([]))) fork_written_by_linux
  pub linux_6_12 : IsAsRecorded (on_the_machine linux_6_12 false (config 4096 140737354133504 65530 0 ([]))) fork_written_by_linux
  pub linux_6_16 : IsAsRecorded (on_the_machine linux_6_16 false (config 4096 140737354133504 65530 0 ([]))) fork_written_by_linux
  pub linux_6_17 : IsAsRecorded (on_the_machine linux_6_17 false (config 4096 140737354133504 65530 0 ([]))) fork_written_by_linux
  pub linux_6_18_15 : IsAsRecorded (on_the_machine linux_6_18_15 false (config 4096 140737354133504 65530 0 ([]))) fork_written_by_linux
  pub linux_6_18 : IsAsRecorded (on_the_machine linux_6_18 false (config 4096 140737354133504 65530 0 ([]))) fork_written_by_linux
  pub linux_7_2 : IsAsRecorded (on_the_machine linux_7_2 false (config 4096 140737354133504 65530 0 ([]))) fork_written_by_linux

-- limit_mmap
abbrev pub limit_mmap_by_profile : List Step
limit_mmap_by_profile =
    kernel_step 0 (Map 1048576 4096 rw 50 (negsuc 0) 0) (Ok (Returned 1048576)) None
    ∷ kernel_step 0 (Map 1056768 4096 rw 50 (negsuc 0) 0) (Err 12) None
    ∷ kernel_step 0 (Map 1064960 4096 rw 50 (negsuc 0) 0) (Err 12) (Some (plain 256 257 rw ∷ []))
    ∷ []

-- limit_mmap
abbrev pub limit_mmap_by_linux : List Step
limit_mmap_by_linux =
    kernel_step 0 (Map 1048576 4096 rw 50 (negsuc 0) 0) (Ok (Returned 1048576)) None
    ∷ kernel_step 0 (Map 1056768 4096 rw 50 (negsuc 0) 0) (Ok (Returned 1056768)) None
    ∷ kernel_step 0 (Map 1064960 4096 rw 50 (negsuc 0) 0) (Err 12) (Some (plain 256 257 rw ∷ plain 258 259 rw ∷ []))
    ∷ []

-- limit_mmap: what the profile answers, and Linux
pub record LimitMmap : Type 0 where
  pub profile : IsByProfile (config 65536 140737354133504 1 0 ([])) limit_mmap_by_profile
  pub linux_6_1 : IsAsRecorded (on_the_machine linux_6_1 false (config 4096 140737354133504 1 0 ([]))) limit_mmap_by_linux
  pub linux_6_12 : IsAsRecorded (on_the_machine linux_6_12 false (config 4096 140737354133504 1 0 ([]))) limit_mmap_by_linux
  pub linux_6_16 : IsAsRecorded (on_the_machine linux_6_16 false (config 4096 140737354133504 1 0 ([]))) limit_mmap_by_linux
  pub linux_6_17 : IsAsRecorded (on_the_machine linux_6_17 false (config 4096 140737354133504 1 0 ([]))) limit_mmap_by_linux
  pub linux_6_18_15 : IsAsRecorded (on_the_machine linux_6_18_15 false (config 4096 140737354133504 1 0 ([]))) limit_mmap_by_linux
  pub linux_6_18 : IsAsRecorded (on_the_machine linux_6_18 false (config 4096 140737354133504 1 0 ([]))) limit_mmap_by_linux
  pub linux_7_2 : IsAsRecorded (on_the_machine linux_7_2 false (config 4096 140737354133504 1 0 ([]))) limit_mmap_by_linux

-- limit_join
abbrev pub limit_join_by_profile : List Step
limit_join_by_profile =
    kernel_step 0 (Map 1048576 4096 rw 50 (negsuc 0) 0) (Ok (Returned 1048576)) None
    ∷ kernel_step 0 (Map 1056768 4096 rw 50 (negsuc 0) 0) (Err 12) None
    ∷ kernel_step 0 (Map 1052672 4096 rw 50 (negsuc 0) 0) (Ok (Returned 1052672)) (Some (plain 256 258 rw ∷ []))
    ∷ []

-- limit_join
abbrev pub limit_join_by_linux : List Step
limit_join_by_linux =
    kernel_step 0 (Map 1048576 4096 rw 50 (negsuc 0) 0) (Ok (Returned 1048576)) None
    ∷ kernel_step 0 (Map 1056768 4096 rw 50 (negsuc 0) 0) (Ok (Returned 1056768)) None
    ∷ kernel_step 0 (Map 1052672 4096 rw 50 (negsuc 0) 0) (Err 12) (Some (plain 256 257 rw ∷ plain 258 259 rw ∷ []))
    ∷ []

-- limit_join: what the profile answers, and Linux
pub record LimitJoin : Type 0 where
  pub profile : IsByProfile (config 65536 140737354133504 1 0 ([])) limit_join_by_profile
  pub linux_6_1 : IsAsRecorded (on_the_machine linux_6_1 false (config 4096 140737354133504 1 0 ([]))) limit_join_by_linux
  pub linux_6_12 : IsAsRecorded (on_the_machine linux_6_12 false (config 4096 140737354133504 1 0 ([]))) limit_join_by_linux
  pub linux_6_16 : IsAsRecorded (on_the_machine linux_6_16 false (config 4096 140737354133504 1 0 ([]))) limit_join_by_linux
  pub linux_6_17 : IsAsRecorded (on_the_machine linux_6_17 false (config 4096 140737354133504 1 0 ([]))) limit_join_by_linux
  pub linux_6_18_15 : IsAsRecorded (on_the_machine linux_6_18_15 false (config 4096 140737354133504 1 0 ([]))) limit_join_by_linux
  pub linux_6_18 : IsAsRecorded (on_the_machine linux_6_18 false (config 4096 140737354133504 1 0 ([]))) limit_join_by_linux
  pub linux_7_2 : IsAsRecorded (on_the_machine linux_7_2 false (config 4096 140737354133504 1 0 ([]))) limit_join_by_linux

-- limit_replace
abbrev pub limit_replace_by_profile : List Step
limit_replace_by_profile =
    kernel_step 0 (Map 1048576 4096 rw 50 (negsuc 0) 0) (Ok (Returned 1048576)) None
    ∷ kernel_step 0 (Map 1056768 4096 rw 50 (negsuc 0) 0) (Err 12) None
    ∷ kernel_step 0 (Map 1048576 4096 r 50 (negsuc 0) 0) (Ok (Returned 1048576)) (Some (plain 256 257 r ∷ []))
    ∷ []

-- limit_replace
abbrev pub limit_replace_by_linux : List Step
limit_replace_by_linux =
    kernel_step 0 (Map 1048576 4096 rw 50 (negsuc 0) 0) (Ok (Returned 1048576)) None
    ∷ kernel_step 0 (Map 1056768 4096 rw 50 (negsuc 0) 0) (Ok (Returned 1056768)) None
    ∷ kernel_step 0 (Map 1048576 4096 r 50 (negsuc 0) 0) (Err 12) (Some (plain 256 257 rw ∷ plain 258 259 rw ∷ []))
    ∷ []

-- limit_replace: what the profile answers, and Linux
pub record LimitReplace : Type 0 where
  pub profile : IsByProfile (config 65536 140737354133504 1 0 ([])) limit_replace_by_profile
  pub linux_6_1 : IsAsRecorded (on_the_machine linux_6_1 false (config 4096 140737354133504 1 0 ([]))) limit_replace_by_linux
  pub linux_6_12 : IsAsRecorded (on_the_machine linux_6_12 false (config 4096 140737354133504 1 0 ([]))) limit_replace_by_linux
  pub linux_6_16 : IsAsRecorded (on_the_machine linux_6_16 false (config 4096 140737354133504 1 0 ([]))) limit_replace_by_linux
  pub linux_6_17 : IsAsRecorded (on_the_machine linux_6_17 false (config 4096 140737354133504 1 0 ([]))) limit_replace_by_linux
  pub linux_6_18_15 : IsAsRecorded (on_the_machine linux_6_18_15 false (config 4096 140737354133504 1 0 ([]))) limit_replace_by_linux
  pub linux_6_18 : IsAsRecorded (on_the_machine linux_6_18 false (config 4096 140737354133504 1 0 ([]))) limit_replace_by_linux
  pub linux_7_2 : IsAsRecorded (on_the_machine linux_7_2 false (config 4096 140737354133504 1 0 ([]))) limit_replace_by_linux

-- limit_brk
abbrev pub limit_brk_by_profile : List Step
limit_brk_by_profile =
    kernel_step 0 (Map 1048576 4096 rw 50 (negsuc 0) 0) (Ok (Returned 1048576)) None
    ∷ kernel_step 0 (Break 2101248) (Ok (Returned 2097152)) (Some (plain 256 257 rw ∷ []))
    ∷ []

-- limit_brk
abbrev pub limit_brk_by_linux : List Step
limit_brk_by_linux =
    kernel_step 0 (Map 1048576 4096 rw 50 (negsuc 0) 0) (Ok (Returned 1048576)) None
    ∷ kernel_step 0 (Break 2101248) (Ok (Returned 2101248)) (Some (plain 256 257 rw ∷ heap 512 513 rw ∷ []))
    ∷ []

-- limit_brk: what the profile answers, and Linux
pub record LimitBrk : Type 0 where
  pub profile : IsByProfile (config 65536 140737354133504 1 2097152 ([])) limit_brk_by_profile
  pub linux_6_1 : IsAsRecorded (on_the_machine linux_6_1 false (config 4096 140737354133504 1 2097152 ([]))) limit_brk_by_linux
  pub linux_6_12 : IsAsRecorded (on_the_machine linux_6_12 false (config 4096 140737354133504 1 2097152 ([]))) limit_brk_by_linux
  pub linux_6_16 : IsAsRecorded (on_the_machine linux_6_16 false (config 4096 140737354133504 1 2097152 ([]))) limit_brk_by_linux
  pub linux_6_17 : IsAsRecorded (on_the_machine linux_6_17 false (config 4096 140737354133504 1 2097152 ([]))) limit_brk_by_linux
  pub linux_6_18_15 : IsAsRecorded (on_the_machine linux_6_18_15 false (config 4096 140737354133504 1 2097152 ([]))) limit_brk_by_linux
  pub linux_6_18 : IsAsRecorded (on_the_machine linux_6_18 false (config 4096 140737354133504 1 2097152 ([]))) limit_brk_by_linux
  pub linux_7_2 : IsAsRecorded (on_the_machine linux_7_2 false (config 4096 140737354133504 1 2097152 ([]))) limit_brk_by_linux

-- limit_move
abbrev pub limit_move_by_profile : List Step
limit_move_by_profile =
    kernel_step 0 (Map 1048576 4096 rw 50 (negsuc 0) 0) (Ok (Returned 1048576)) None
    ∷ kernel_step 0 (Map 1052672 4096 r 50 (negsuc 0) 0) (Ok (Returned 1052672)) None
    ∷ kernel_step 0 (Remap 1048576 4096 8192 1 0) (Ok (Returned 140737354125312)) (Some (plain 257 258 r ∷ plain 34359705597 34359705599 rw ∷ []))
    ∷ []

-- limit_move
abbrev pub limit_move_by_linux : List Step
limit_move_by_linux =
    kernel_step 0 (Map 1048576 4096 rw 50 (negsuc 0) 0) (Ok (Returned 1048576)) None
    ∷ kernel_step 0 (Map 1052672 4096 r 50 (negsuc 0) 0) (Ok (Returned 1052672)) None
    ∷ kernel_step 0 (Remap 1048576 4096 8192 1 0) (Err 12) (Some (plain 256 257 rw ∷ plain 257 258 r ∷ []))
    ∷ []

-- limit_move: what the profile answers, and Linux
pub record LimitMove : Type 0 where
  pub profile : IsByProfile (config 65536 140737354133504 5 0 ([])) limit_move_by_profile
  pub linux_6_1 : IsAsRecorded (on_the_machine linux_6_1 false (config 4096 140737354133504 5 0 ([]))) limit_move_by_linux
  pub linux_6_12 : IsAsRecorded (on_the_machine linux_6_12 false (config 4096 140737354133504 5 0 ([]))) limit_move_by_linux
  pub linux_6_16 : IsAsRecorded (on_the_machine linux_6_16 false (config 4096 140737354133504 5 0 ([]))) limit_move_by_linux
  pub linux_6_17 : IsAsRecorded (on_the_machine linux_6_17 false (config 4096 140737354133504 5 0 ([]))) limit_move_by_linux
  pub linux_6_18_15 : IsAsRecorded (on_the_machine linux_6_18_15 false (config 4096 140737354133504 5 0 ([]))) limit_move_by_linux
  pub linux_6_18 : IsAsRecorded (on_the_machine linux_6_18 false (config 4096 140737354133504 5 0 ([]))) limit_move_by_linux
  pub linux_7_2 : IsAsRecorded (on_the_machine linux_7_2 false (config 4096 140737354133504 5 0 ([]))) limit_move_by_linux

-- limit_move_fixed
abbrev pub limit_move_fixed_by_profile : List Step
limit_move_fixed_by_profile =
    kernel_step 0 (Map 1048576 4096 rw 50 (negsuc 0) 0) (Ok (Returned 1048576)) None
    ∷ kernel_step 0 (Map 1052672 4096 r 50 (negsuc 0) 0) (Ok (Returned 1052672)) None
    ∷ kernel_step 0 (Remap 1048576 4096 4096 3 2097152) (Ok (Returned 2097152)) (Some (plain 257 258 r ∷ plain 512 513 rw ∷ []))
    ∷ []

-- limit_move_fixed
abbrev pub limit_move_fixed_by_linux : List Step
limit_move_fixed_by_linux =
    kernel_step 0 (Map 1048576 4096 rw 50 (negsuc 0) 0) (Ok (Returned 1048576)) None
    ∷ kernel_step 0 (Map 1052672 4096 r 50 (negsuc 0) 0) (Ok (Returned 1052672)) None
    ∷ kernel_step 0 (Remap 1048576 4096 4096 3 2097152) (Err 12) (Some (plain 256 257 rw ∷ plain 257 258 r ∷ []))
    ∷ []

-- limit_move_fixed: what the profile answers, and Linux
pub record LimitMoveFixed : Type 0 where
  pub profile : IsByProfile (config 65536 140737354133504 7 0 ([])) limit_move_fixed_by_profile
  pub linux_6_1 : IsAsRecorded (on_the_machine linux_6_1 false (config 4096 140737354133504 7 0 ([]))) limit_move_fixed_by_linux
  pub linux_6_12 : IsAsRecorded (on_the_machine linux_6_12 false (config 4096 140737354133504 7 0 ([]))) limit_move_fixed_by_linux
  pub linux_6_16 : IsAsRecorded (on_the_machine linux_6_16 false (config 4096 140737354133504 7 0 ([]))) limit_move_fixed_by_linux
  pub linux_6_17 : IsAsRecorded (on_the_machine linux_6_17 false (config 4096 140737354133504 7 0 ([]))) limit_move_fixed_by_linux
  pub linux_6_18_15 : IsAsRecorded (on_the_machine linux_6_18_15 false (config 4096 140737354133504 7 0 ([]))) limit_move_fixed_by_linux
  pub linux_6_18 : IsAsRecorded (on_the_machine linux_6_18 false (config 4096 140737354133504 7 0 ([]))) limit_move_fixed_by_linux
  pub linux_7_2 : IsAsRecorded (on_the_machine linux_7_2 false (config 4096 140737354133504 7 0 ([]))) limit_move_fixed_by_profile

-- limit_fixed_middle
abbrev pub limit_fixed_middle_by_profile : List Step
limit_fixed_middle_by_profile =
    kernel_step 0 (Map 1048576 12288 rw 50 (negsuc 0) 0) (Ok (Returned 1048576)) None
    ∷ kernel_step 0 (Map 1052672 4096 r 50 (negsuc 0) 0) (Err 12) (Some (plain 256 259 rw ∷ []))
    ∷ []

-- limit_fixed_middle
abbrev pub limit_fixed_middle_by_linux : List Step
limit_fixed_middle_by_linux =
    kernel_step 0 (Map 1048576 12288 rw 50 (negsuc 0) 0) (Ok (Returned 1048576)) None
    ∷ kernel_step 0 (Map 1052672 4096 r 50 (negsuc 0) 0) (Ok (Returned 1052672)) (Some (plain 256 257 rw ∷ plain 257 258 r ∷ plain 258 259 rw ∷ []))
    ∷ []

-- limit_fixed_middle: what the profile answers, and Linux
pub record LimitFixedMiddle : Type 0 where
  pub profile : IsByProfile (config 65536 140737354133504 2 0 ([])) limit_fixed_middle_by_profile
  pub linux_6_1 : IsAsRecorded (on_the_machine linux_6_1 false (config 4096 140737354133504 2 0 ([]))) limit_fixed_middle_by_linux
  pub linux_6_12 : IsAsRecorded (on_the_machine linux_6_12 false (config 4096 140737354133504 2 0 ([]))) limit_fixed_middle_by_linux
  pub linux_6_16 : IsAsRecorded (on_the_machine linux_6_16 false (config 4096 140737354133504 2 0 ([]))) limit_fixed_middle_by_linux
  pub linux_6_17 : IsAsRecorded (on_the_machine linux_6_17 false (config 4096 140737354133504 2 0 ([]))) limit_fixed_middle_by_linux
  pub linux_6_18_15 : IsAsRecorded (on_the_machine linux_6_18_15 false (config 4096 140737354133504 2 0 ([]))) limit_fixed_middle_by_linux
  pub linux_6_18 : IsAsRecorded (on_the_machine linux_6_18 false (config 4096 140737354133504 2 0 ([]))) limit_fixed_middle_by_linux
  pub linux_7_2 : IsAsRecorded (on_the_machine linux_7_2 false (config 4096 140737354133504 2 0 ([]))) limit_fixed_middle_by_linux

-- limit_border
abbrev pub limit_border_by_profile : List Step
limit_border_by_profile =
    kernel_step 0 (Map 1048576 12288 rw 50 (negsuc 0) 0) (Ok (Returned 1048576)) None
    ∷ kernel_step 0 (Protect 1052672 4096 r) (Err 12) (Some (plain 256 259 rw ∷ []))
    ∷ []

-- limit_border
abbrev pub limit_border_by_linux : List Step
limit_border_by_linux =
    kernel_step 0 (Map 1048576 12288 rw 50 (negsuc 0) 0) (Ok (Returned 1048576)) None
    ∷ kernel_step 0 (Protect 1052672 4096 r) (Err 12) (Some (plain 256 257 rw ∷ plain 257 259 rw ∷ []))
    ∷ []

-- limit_border: what the profile answers, and Linux
pub record LimitBorder : Type 0 where
  pub profile : IsByProfile (config 65536 140737354133504 2 0 ([])) limit_border_by_profile
  pub linux_6_1 : IsAsRecorded (on_the_machine linux_6_1 false (config 4096 140737354133504 2 0 ([]))) limit_border_by_linux
  pub linux_6_12 : IsAsRecorded (on_the_machine linux_6_12 false (config 4096 140737354133504 2 0 ([]))) limit_border_by_linux
  pub linux_6_16 : IsAsRecorded (on_the_machine linux_6_16 false (config 4096 140737354133504 2 0 ([]))) limit_border_by_linux
  pub linux_6_17 : IsAsRecorded (on_the_machine linux_6_17 false (config 4096 140737354133504 2 0 ([]))) limit_border_by_linux
  pub linux_6_18_15 : IsAsRecorded (on_the_machine linux_6_18_15 false (config 4096 140737354133504 2 0 ([]))) limit_border_by_linux
  pub linux_6_18 : IsAsRecorded (on_the_machine linux_6_18 false (config 4096 140737354133504 2 0 ([]))) limit_border_by_linux
  pub linux_7_2 : IsAsRecorded (on_the_machine linux_7_2 false (config 4096 140737354133504 2 0 ([]))) limit_border_by_linux

-- all rows of this file
pub record AllRows6 : Type 0 where
  pub seal_denied : SealDenied
  pub seal_kept : SealKept
  pub seal_other_error : SealOtherError
  pub seal_dontunmap : SealDontunmap
  pub seal_fixed_cut : SealFixedCut
  pub seal_several : SealSeveral
  pub seal_fixed : SealFixed
  pub fork_written : ForkWritten
  pub limit_mmap : LimitMmap
  pub limit_join : LimitJoin
  pub limit_replace : LimitReplace
  pub limit_brk : LimitBrk
  pub limit_move : LimitMove
  pub limit_move_fixed : LimitMoveFixed
  pub limit_fixed_middle : LimitFixedMiddle
  pub limit_border : LimitBorder
