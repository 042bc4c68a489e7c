-- Rows of docs/KERNEL.md. Made by dev/make-linux-rules from examples/kernel-rows.txt.
use Rattle.std.specs.Prelude.{List, ◌∷◌, [], true, false, pos, negsuc, Some, None, Ok, Err}
use Rattle.mm_types.specs.declared.area.Access.TheVariants.{Write}
use Rattle.linux_rules.specs.Versions.{linux_6_1, linux_6_12, linux_6_16, linux_6_17, linux_6_18_15, linux_6_18, linux_7_2}
use Rattle.linux_rules.specs.Steps.{Map, Protect, Remap, Touch, Returned, Serves, Step, r, rw, plain, filed, kernel_step, file_row, config}
use Rattle.linux_rules.specs.Recorded.{IsAsRecorded}
use Rattle.linux_beside.specs.Sides.{IsByProfile, on_the_machine}

-- border_file
abbrev pub border_file_by_profile : List Step
border_file_by_profile =
    kernel_step 0 (Map 1048576 4096 r 18 (pos 3) 0) (Ok (Returned 1048576)) None
    ∷ kernel_step 0 (Map 1052672 4096 rw 18 (pos 3) 4096) (Ok (Returned 1052672)) None
    ∷ kernel_step 0 (Protect 1052672 4096 r) (Ok (Returned 0)) (Some (filed 256 258 r false 0 1 ∷ []))
    ∷ []

-- border_file
abbrev pub border_file_by_linux : List Step
border_file_by_linux =
    kernel_step 0 (Map 1048576 4096 r 18 (pos 3) 0) (Ok (Returned 1048576)) None
    ∷ kernel_step 0 (Map 1052672 4096 rw 18 (pos 3) 4096) (Ok (Returned 1052672)) None
    ∷ kernel_step 0 (Protect 1052672 4096 r) (Ok (Returned 0)) (Some (filed 256 257 r false 0 1 ∷ filed 257 258 r false 4096 1 ∷ []))
    ∷ []

-- border_file: what the profile answers, and Linux
pub record BorderFile : Type 0 where
  pub profile : IsByProfile (config 65536 140737354133504 65530 0 (file_row 3 true false 8192 ∷ [])) border_file_by_profile
  pub linux_6_1 : IsAsRecorded (on_the_machine linux_6_1 false (config 4096 140737354133504 65530 0 (file_row 3 true false 8192 ∷ []))) border_file_by_linux
  pub linux_6_12 : IsAsRecorded (on_the_machine linux_6_12 false (config 4096 140737354133504 65530 0 (file_row 3 true false 8192 ∷ []))) border_file_by_linux
  pub linux_6_16 : IsAsRecorded (on_the_machine linux_6_16 false (config 4096 140737354133504 65530 0 (file_row 3 true false 8192 ∷ []))) border_file_by_linux
  pub linux_6_17 : IsAsRecorded (on_the_machine linux_6_17 false (config 4096 140737354133504 65530 0 (file_row 3 true false 8192 ∷ []))) border_file_by_linux
  pub linux_6_18_15 : IsAsRecorded (on_the_machine linux_6_18_15 false (config 4096 140737354133504 65530 0 (file_row 3 true false 8192 ∷ []))) border_file_by_linux
  pub linux_6_18 : IsAsRecorded (on_the_machine linux_6_18 false (config 4096 140737354133504 65530 0 (file_row 3 true false 8192 ∷ []))) border_file_by_linux
  pub linux_7_2 : IsAsRecorded (on_the_machine linux_7_2 false (config 4096 140737354133504 65530 0 (file_row 3 true false 8192 ∷ []))) border_file_by_linux

-- border_written
abbrev pub border_written_by_profile : List Step
border_written_by_profile =
    kernel_step 0 (Map 1048576 4096 r 50 (negsuc 0) 0) (Ok (Returned 1048576)) None
    ∷ kernel_step 0 (Map 1052672 4096 rw 50 (negsuc 0) 0) (Ok (Returned 1052672)) None
    ∷ kernel_step 0 (Touch 257 Write) (Ok (Serves 257 258 rw false 0)) None
    ∷ kernel_step 0 (Protect 1052672 4096 r) (Ok (Returned 0)) (Some (plain 256 258 r ∷ []))
    ∷ []

-- border_written
abbrev pub border_written_by_linux : List Step
border_written_by_linux =
    kernel_step 0 (Map 1048576 4096 r 50 (negsuc 0) 0) (Ok (Returned 1048576)) None
    ∷ kernel_step 0 (Map 1052672 4096 rw 50 (negsuc 0) 0) (Ok (Returned 1052672)) None
    ∷ kernel_step 0 (Touch 257 Write) (Ok (Serves 257 258 rw false 0)) None
    ∷ kernel_step 0 (Protect 1052672 4096 r) (Ok (Returned 0)) (Some (plain 256 257 r ∷ plain 257 258 r ∷ []))
    ∷ []

-- border_written: what the profile answers, and Linux
pub record BorderWritten : Type 0 where
  pub profile : IsByProfile (config 65536 140737354133504 65530 0 ([])) border_written_by_profile
  pub linux_6_1 : IsAsRecorded (on_the_machine linux_6_1 false (config 4096 140737354133504 65530 0 ([]))) border_written_by_linux
  pub linux_6_12 : IsAsRecorded (on_the_machine linux_6_12 false (config 4096 140737354133504 65530 0 ([]))) border_written_by_linux
  pub linux_6_16 : IsAsRecorded (on_the_machine linux_6_16 false (config 4096 140737354133504 65530 0 ([]))) border_written_by_linux
  pub linux_6_17 : IsAsRecorded (on_the_machine linux_6_17 false (config 4096 140737354133504 65530 0 ([]))) border_written_by_linux
  pub linux_6_18_15 : IsAsRecorded (on_the_machine linux_6_18_15 false (config 4096 140737354133504 65530 0 ([]))) border_written_by_linux
  pub linux_6_18 : IsAsRecorded (on_the_machine linux_6_18 false (config 4096 140737354133504 65530 0 ([]))) border_written_by_linux
  pub linux_7_2 : IsAsRecorded (on_the_machine linux_7_2 false (config 4096 140737354133504 65530 0 ([]))) border_written_by_linux

-- border_gap
abbrev pub border_gap_by_profile : List Step
border_gap_by_profile =
    kernel_step 0 (Map 1048576 4096 rw 50 (negsuc 0) 0) (Ok (Returned 1048576)) None
    ∷ kernel_step 0 (Map 1056768 4096 rw 50 (negsuc 0) 0) (Ok (Returned 1056768)) None
    ∷ kernel_step 0 (Touch 256 Write) (Ok (Serves 256 257 rw false 0)) None
    ∷ kernel_step 0 (Touch 258 Write) (Ok (Serves 258 259 rw false 0)) None
    ∷ kernel_step 0 (Map 1052672 4096 rw 50 (negsuc 0) 0) (Ok (Returned 1052672)) (Some (plain 256 259 rw ∷ []))
    ∷ []

-- border_gap
abbrev pub border_gap_by_linux : List Step
border_gap_by_linux =
    kernel_step 0 (Map 1048576 4096 rw 50 (negsuc 0) 0) (Ok (Returned 1048576)) None
    ∷ kernel_step 0 (Map 1056768 4096 rw 50 (negsuc 0) 0) (Ok (Returned 1056768)) None
    ∷ kernel_step 0 (Touch 256 Write) (Ok (Serves 256 257 rw false 0)) None
    ∷ kernel_step 0 (Touch 258 Write) (Ok (Serves 258 259 rw false 0)) None
    ∷ kernel_step 0 (Map 1052672 4096 rw 50 (negsuc 0) 0) (Ok (Returned 1052672)) (Some (plain 256 258 rw ∷ plain 258 259 rw ∷ []))
    ∷ []

-- border_gap
abbrev pub border_gap_by_linux_6_1 : List Step
border_gap_by_linux_6_1 =
    kernel_step 0 (Map 1048576 4096 rw 50 (negsuc 0) 0) (Ok (Returned 1048576)) None
    ∷ kernel_step 0 (Map 1056768 4096 rw 50 (negsuc 0) 0) (Ok (Returned 1056768)) None
    ∷ kernel_step 0 (Touch 256 Write) (Ok (Serves 256 257 rw false 0)) None
    ∷ kernel_step 0 (Touch 258 Write) (Ok (Serves 258 259 rw false 0)) None
    ∷ kernel_step 0 (Map 1052672 4096 rw 50 (negsuc 0) 0) (Ok (Returned 1052672)) (Some (plain 256 257 rw ∷ plain 257 259 rw ∷ []))
    ∷ []

-- border_gap: what the profile answers, and Linux
pub record BorderGap : Type 0 where
  pub profile : IsByProfile (config 65536 140737354133504 65530 0 ([])) border_gap_by_profile
  pub linux_6_1 : IsAsRecorded (on_the_machine linux_6_1 false (config 4096 140737354133504 65530 0 ([]))) border_gap_by_linux_6_1
  pub linux_6_12 : IsAsRecorded (on_the_machine linux_6_12 false (config 4096 140737354133504 65530 0 ([]))) border_gap_by_linux
  pub linux_6_16 : IsAsRecorded (on_the_machine linux_6_16 false (config 4096 140737354133504 65530 0 ([]))) border_gap_by_linux
  pub linux_6_17 : IsAsRecorded (on_the_machine linux_6_17 false (config 4096 140737354133504 65530 0 ([]))) border_gap_by_linux
  pub linux_6_18_15 : IsAsRecorded (on_the_machine linux_6_18_15 false (config 4096 140737354133504 65530 0 ([]))) border_gap_by_linux
  pub linux_6_18 : IsAsRecorded (on_the_machine linux_6_18 false (config 4096 140737354133504 65530 0 ([]))) border_gap_by_linux
  pub linux_7_2 : IsAsRecorded (on_the_machine linux_7_2 false (config 4096 140737354133504 65530 0 ([]))) border_gap_by_linux

-- border_between
abbrev pub border_between_by_profile : List Step
border_between_by_profile =
    kernel_step 0 (Map 1048576 12288 rw 50 (negsuc 0) 0) (Ok (Returned 1048576)) None
    ∷ kernel_step 0 (Protect 1052672 4096 r) (Ok (Returned 0)) None
    ∷ kernel_step 0 (Touch 256 Write) (Ok (Serves 256 257 rw false 0)) None
    ∷ kernel_step 0 (Touch 258 Write) (Ok (Serves 258 259 rw false 0)) None
    ∷ kernel_step 0 (Protect 1052672 4096 rw) (Ok (Returned 0)) (Some (plain 256 259 rw ∷ []))
    ∷ []

-- border_between
abbrev pub border_between_by_linux : List Step
border_between_by_linux =
    kernel_step 0 (Map 1048576 12288 rw 50 (negsuc 0) 0) (Ok (Returned 1048576)) None
    ∷ kernel_step 0 (Protect 1052672 4096 r) (Ok (Returned 0)) None
    ∷ kernel_step 0 (Touch 256 Write) (Ok (Serves 256 257 rw false 0)) None
    ∷ kernel_step 0 (Touch 258 Write) (Ok (Serves 258 259 rw false 0)) None
    ∷ kernel_step 0 (Protect 1052672 4096 rw) (Ok (Returned 0)) (Some (plain 256 258 rw ∷ plain 258 259 rw ∷ []))
    ∷ []

-- border_between: what the profile answers, and Linux
pub record BorderBetween : Type 0 where
  pub profile : IsByProfile (config 65536 140737354133504 65530 0 ([])) border_between_by_profile
  pub linux_6_1 : IsAsRecorded (on_the_machine linux_6_1 false (config 4096 140737354133504 65530 0 ([]))) border_between_by_linux
  pub linux_6_12 : IsAsRecorded (on_the_machine linux_6_12 false (config 4096 140737354133504 65530 0 ([]))) border_between_by_linux
  pub linux_6_16 : IsAsRecorded (on_the_machine linux_6_16 false (config 4096 140737354133504 65530 0 ([]))) border_between_by_linux
  pub linux_6_17 : IsAsRecorded (on_the_machine linux_6_17 false (config 4096 140737354133504 65530 0 ([]))) border_between_by_linux
  pub linux_6_18_15 : IsAsRecorded (on_the_machine linux_6_18_15 false (config 4096 140737354133504 65530 0 ([]))) border_between_by_linux
  pub linux_6_18 : IsAsRecorded (on_the_machine linux_6_18 false (config 4096 140737354133504 65530 0 ([]))) border_between_by_linux
  pub linux_7_2 : IsAsRecorded (on_the_machine linux_7_2 false (config 4096 140737354133504 65530 0 ([]))) border_between_by_linux

-- border_moved
abbrev pub border_moved_by_profile : List Step
border_moved_by_profile =
    kernel_step 0 (Map 1048576 4096 rw 50 (negsuc 0) 0) (Ok (Returned 1048576)) None
    ∷ kernel_step 0 (Map 2097152 4096 rw 50 (negsuc 0) 0) (Ok (Returned 2097152)) None
    ∷ kernel_step 0 (Touch 512 Write) (Ok (Serves 512 513 rw false 0)) None
    ∷ kernel_step 0 (Remap 2097152 4096 4096 3 1052672) (Ok (Returned 1052672)) (Some (plain 256 258 rw ∷ []))
    ∷ []

-- border_moved
abbrev pub border_moved_by_linux : List Step
border_moved_by_linux =
    kernel_step 0 (Map 1048576 4096 rw 50 (negsuc 0) 0) (Ok (Returned 1048576)) None
    ∷ kernel_step 0 (Map 2097152 4096 rw 50 (negsuc 0) 0) (Ok (Returned 2097152)) None
    ∷ kernel_step 0 (Touch 512 Write) (Ok (Serves 512 513 rw false 0)) None
    ∷ kernel_step 0 (Remap 2097152 4096 4096 3 1052672) (Ok (Returned 1052672)) (Some (plain 256 257 rw ∷ plain 257 258 rw ∷ []))
    ∷ []

-- border_moved: what the profile answers, and Linux
pub record BorderMoved : Type 0 where
  pub profile : IsByProfile (config 65536 140737354133504 65530 0 ([])) border_moved_by_profile
  pub linux_6_1 : IsAsRecorded (on_the_machine linux_6_1 false (config 4096 140737354133504 65530 0 ([]))) border_moved_by_linux
  pub linux_6_12 : IsAsRecorded (on_the_machine linux_6_12 false (config 4096 140737354133504 65530 0 ([]))) border_moved_by_linux
  pub linux_6_16 : IsAsRecorded (on_the_machine linux_6_16 false (config 4096 140737354133504 65530 0 ([]))) border_moved_by_linux
  pub linux_6_17 : IsAsRecorded (on_the_machine linux_6_17 false (config 4096 140737354133504 65530 0 ([]))) border_moved_by_linux
  pub linux_6_18_15 : IsAsRecorded (on_the_machine linux_6_18_15 false (config 4096 140737354133504 65530 0 ([]))) border_moved_by_linux
  pub linux_6_18 : IsAsRecorded (on_the_machine linux_6_18 false (config 4096 140737354133504 65530 0 ([]))) border_moved_by_linux
  pub linux_7_2 : IsAsRecorded (on_the_machine linux_7_2 false (config 4096 140737354133504 65530 0 ([]))) border_moved_by_linux

-- border_moved_back
abbrev pub border_moved_back_by_profile : List Step
border_moved_back_by_profile =
    kernel_step 0 (Map 1052672 4096 rw 50 (negsuc 0) 0) (Ok (Returned 1052672)) None
    ∷ kernel_step 0 (Map 1048576 4096 rw 50 (negsuc 0) 0) (Ok (Returned 1048576)) None
    ∷ kernel_step 0 (Touch 257 Write) (Ok (Serves 256 258 rw false 0)) None
    ∷ kernel_step 0 (Remap 1052672 4096 4096 3 2097152) (Ok (Returned 2097152)) None
    ∷ kernel_step 0 (Remap 2097152 4096 4096 3 1052672) (Ok (Returned 1052672)) (Some (plain 256 258 rw ∷ []))
    ∷ []

-- border_moved_back
abbrev pub border_moved_back_by_linux : List Step
border_moved_back_by_linux =
    kernel_step 0 (Map 1052672 4096 rw 50 (negsuc 0) 0) (Ok (Returned 1052672)) None
    ∷ kernel_step 0 (Map 1048576 4096 rw 50 (negsuc 0) 0) (Ok (Returned 1048576)) None
    ∷ kernel_step 0 (Touch 257 Write) (Ok (Serves 256 258 rw false 0)) None
    ∷ kernel_step 0 (Remap 1052672 4096 4096 3 2097152) (Ok (Returned 2097152)) None
    ∷ kernel_step 0 (Remap 2097152 4096 4096 3 1052672) (Ok (Returned 1052672)) (Some (plain 256 258 rw ∷ []))
    ∷ []

-- border_moved_back: what the profile answers, and Linux
pub record BorderMovedBack : Type 0 where
  pub profile : IsByProfile (config 65536 140737354133504 65530 0 ([])) border_moved_back_by_profile
  pub linux_6_1 : IsAsRecorded (on_the_machine linux_6_1 false (config 4096 140737354133504 65530 0 ([]))) border_moved_back_by_profile
  pub linux_6_12 : IsAsRecorded (on_the_machine linux_6_12 false (config 4096 140737354133504 65530 0 ([]))) border_moved_back_by_profile
  pub linux_6_16 : IsAsRecorded (on_the_machine linux_6_16 false (config 4096 140737354133504 65530 0 ([]))) border_moved_back_by_profile
  pub linux_6_17 : IsAsRecorded (on_the_machine linux_6_17 false (config 4096 140737354133504 65530 0 ([]))) border_moved_back_by_profile
  pub linux_6_18_15 : IsAsRecorded (on_the_machine linux_6_18_15 false (config 4096 140737354133504 65530 0 ([]))) border_moved_back_by_profile
  pub linux_6_18 : IsAsRecorded (on_the_machine linux_6_18 false (config 4096 140737354133504 65530 0 ([]))) border_moved_back_by_profile
  pub linux_7_2 : IsAsRecorded (on_the_machine linux_7_2 false (config 4096 140737354133504 65530 0 ([]))) border_moved_back_by_profile

-- border_stack
abbrev pub border_stack_by_profile : List Step
border_stack_by_profile =
    kernel_step 0 (Map 1048576 4096 rw 50 (negsuc 0) 0) (Ok (Returned 1048576)) None
    ∷ kernel_step 0 (Map 1052672 4096 rw 131122 (negsuc 0) 0) (Ok (Returned 1052672)) (Some (plain 256 258 rw ∷ []))
    ∷ []

-- border_stack
abbrev pub border_stack_by_linux : List Step
border_stack_by_linux =
    kernel_step 0 (Map 1048576 4096 rw 50 (negsuc 0) 0) (Ok (Returned 1048576)) None
    ∷ kernel_step 0 (Map 1052672 4096 rw 131122 (negsuc 0) 0) (Ok (Returned 1052672)) (Some (plain 256 257 rw ∷ plain 257 258 rw ∷ []))
    ∷ []

-- border_stack: what the profile answers, and Linux
pub record BorderStack : Type 0 where
  pub profile : IsByProfile (config 65536 140737354133504 65530 0 ([])) border_stack_by_profile
  pub linux_6_1 : IsAsRecorded (on_the_machine linux_6_1 false (config 4096 140737354133504 65530 0 ([]))) border_stack_by_profile
  pub linux_6_12 : IsAsRecorded (on_the_machine linux_6_12 false (config 4096 140737354133504 65530 0 ([]))) border_stack_by_linux
  pub linux_6_16 : IsAsRecorded (on_the_machine linux_6_16 false (config 4096 140737354133504 65530 0 ([]))) border_stack_by_linux
  pub linux_6_17 : IsAsRecorded (on_the_machine linux_6_17 false (config 4096 140737354133504 65530 0 ([]))) border_stack_by_linux
  pub linux_6_18_15 : IsAsRecorded (on_the_machine linux_6_18_15 false (config 4096 140737354133504 65530 0 ([]))) border_stack_by_linux
  pub linux_6_18 : IsAsRecorded (on_the_machine linux_6_18 false (config 4096 140737354133504 65530 0 ([]))) border_stack_by_linux
  pub linux_7_2 : IsAsRecorded (on_the_machine linux_7_2 false (config 4096 140737354133504 65530 0 ([]))) border_stack_by_linux

-- border_noreserve
abbrev pub border_noreserve_by_profile : List Step
border_noreserve_by_profile =
    kernel_step 0 (Map 1048576 4096 rw 50 (negsuc 0) 0) (Ok (Returned 1048576)) None
    ∷ kernel_step 0 (Map 1052672 4096 rw 16434 (negsuc 0) 0) (Ok (Returned 1052672)) (Some (plain 256 258 rw ∷ []))
    ∷ []

-- border_noreserve
abbrev pub border_noreserve_by_linux : List Step
border_noreserve_by_linux =
    kernel_step 0 (Map 1048576 4096 rw 50 (negsuc 0) 0) (Ok (Returned 1048576)) None
    ∷ kernel_step 0 (Map 1052672 4096 rw 16434 (negsuc 0) 0) (Ok (Returned 1052672)) (Some (plain 256 257 rw ∷ plain 257 258 rw ∷ []))
    ∷ []

-- border_noreserve: what the profile answers, and Linux
pub record BorderNoreserve : Type 0 where
  pub profile : IsByProfile (config 65536 140737354133504 65530 0 ([])) border_noreserve_by_profile
  pub linux_6_1 : IsAsRecorded (on_the_machine linux_6_1 false (config 4096 140737354133504 65530 0 ([]))) border_noreserve_by_linux
  pub linux_6_12 : IsAsRecorded (on_the_machine linux_6_12 false (config 4096 140737354133504 65530 0 ([]))) border_noreserve_by_linux
  pub linux_6_16 : IsAsRecorded (on_the_machine linux_6_16 false (config 4096 140737354133504 65530 0 ([]))) border_noreserve_by_linux
  pub linux_6_17 : IsAsRecorded (on_the_machine linux_6_17 false (config 4096 140737354133504 65530 0 ([]))) border_noreserve_by_linux
  pub linux_6_18_15 : IsAsRecorded (on_the_machine linux_6_18_15 false (config 4096 140737354133504 65530 0 ([]))) border_noreserve_by_linux
  pub linux_6_18 : IsAsRecorded (on_the_machine linux_6_18 false (config 4096 140737354133504 65530 0 ([]))) border_noreserve_by_linux
  pub linux_7_2 : IsAsRecorded (on_the_machine linux_7_2 false (config 4096 140737354133504 65530 0 ([]))) border_noreserve_by_linux

-- border_populate
abbrev pub border_populate_by_profile : List Step
border_populate_by_profile =
    kernel_step 0 (Map 1048576 4096 rw 50 (negsuc 0) 0) (Ok (Returned 1048576)) None
    ∷ kernel_step 0 (Touch 256 Write) (Ok (Serves 256 257 rw false 0)) None
    ∷ kernel_step 0 (Map 1056768 4096 rw 32818 (negsuc 0) 0) (Ok (Returned 1056768)) None
    ∷ kernel_step 0 (Map 1052672 4096 rw 50 (negsuc 0) 0) (Ok (Returned 1052672)) (Some (plain 256 259 rw ∷ []))
    ∷ []

-- border_populate
abbrev pub border_populate_by_linux : List Step
border_populate_by_linux =
    kernel_step 0 (Map 1048576 4096 rw 50 (negsuc 0) 0) (Ok (Returned 1048576)) None
    ∷ kernel_step 0 (Touch 256 Write) (Ok (Serves 256 257 rw false 0)) None
    ∷ kernel_step 0 (Map 1056768 4096 rw 32818 (negsuc 0) 0) (Ok (Returned 1056768)) None
    ∷ kernel_step 0 (Map 1052672 4096 rw 50 (negsuc 0) 0) (Ok (Returned 1052672)) (Some (plain 256 258 rw ∷ plain 258 259 rw ∷ []))
    ∷ []

-- border_populate
abbrev pub border_populate_by_linux_6_1 : List Step
border_populate_by_linux_6_1 =
    kernel_step 0 (Map 1048576 4096 rw 50 (negsuc 0) 0) (Ok (Returned 1048576)) None
    ∷ kernel_step 0 (Touch 256 Write) (Ok (Serves 256 257 rw false 0)) None
    ∷ kernel_step 0 (Map 1056768 4096 rw 32818 (negsuc 0) 0) (Ok (Returned 1056768)) None
    ∷ kernel_step 0 (Map 1052672 4096 rw 50 (negsuc 0) 0) (Ok (Returned 1052672)) (Some (plain 256 257 rw ∷ plain 257 259 rw ∷ []))
    ∷ []

-- border_populate: what the profile answers, and Linux
pub record BorderPopulate : Type 0 where
  pub profile : IsByProfile (config 65536 140737354133504 65530 0 ([])) border_populate_by_profile
  pub linux_6_1 : IsAsRecorded (on_the_machine linux_6_1 false (config 4096 140737354133504 65530 0 ([]))) border_populate_by_linux_6_1
  pub linux_6_12 : IsAsRecorded (on_the_machine linux_6_12 false (config 4096 140737354133504 65530 0 ([]))) border_populate_by_linux
  pub linux_6_16 : IsAsRecorded (on_the_machine linux_6_16 false (config 4096 140737354133504 65530 0 ([]))) border_populate_by_linux
  pub linux_6_17 : IsAsRecorded (on_the_machine linux_6_17 false (config 4096 140737354133504 65530 0 ([]))) border_populate_by_linux
  pub linux_6_18_15 : IsAsRecorded (on_the_machine linux_6_18_15 false (config 4096 140737354133504 65530 0 ([]))) border_populate_by_linux
  pub linux_6_18 : IsAsRecorded (on_the_machine linux_6_18 false (config 4096 140737354133504 65530 0 ([]))) border_populate_by_linux
  pub linux_7_2 : IsAsRecorded (on_the_machine linux_7_2 false (config 4096 140737354133504 65530 0 ([]))) border_populate_by_linux

-- border_refused
abbrev pub border_refused_by_profile : List Step
border_refused_by_profile =
    kernel_step 0 (Map 1048576 4096 rw 50 (negsuc 0) 0) (Ok (Returned 1048576)) None
    ∷ kernel_step 0 (Map 1056768 4096 rw 50 (negsuc 0) 0) (Ok (Returned 1056768)) None
    ∷ kernel_step 0 (Touch 256 Write) (Ok (Serves 256 257 rw false 0)) None
    ∷ kernel_step 0 (Touch 258 Write) (Ok (Serves 258 259 rw false 0)) None
    ∷ kernel_step 0 (Map 1052672 4096 rw 50 (negsuc 0) 0) (Ok (Returned 1052672)) None
    ∷ kernel_step 0 (Remap 1048576 12288 16384 1 0) (Ok (Returned 1048576)) (Some (plain 256 260 rw ∷ []))
    ∷ []

-- border_refused
abbrev pub border_refused_by_linux : List Step
border_refused_by_linux =
    kernel_step 0 (Map 1048576 4096 rw 50 (negsuc 0) 0) (Ok (Returned 1048576)) None
    ∷ kernel_step 0 (Map 1056768 4096 rw 50 (negsuc 0) 0) (Ok (Returned 1056768)) None
    ∷ kernel_step 0 (Touch 256 Write) (Ok (Serves 256 257 rw false 0)) None
    ∷ kernel_step 0 (Touch 258 Write) (Ok (Serves 258 259 rw false 0)) None
    ∷ kernel_step 0 (Map 1052672 4096 rw 50 (negsuc 0) 0) (Ok (Returned 1052672)) None
    ∷ kernel_step 0 (Remap 1048576 12288 16384 1 0) (Err 14) (Some (plain 256 258 rw ∷ plain 258 259 rw ∷ []))
    ∷ []

-- border_refused
abbrev pub border_refused_by_linux_6_1 : List Step
border_refused_by_linux_6_1 =
    kernel_step 0 (Map 1048576 4096 rw 50 (negsuc 0) 0) (Ok (Returned 1048576)) None
    ∷ kernel_step 0 (Map 1056768 4096 rw 50 (negsuc 0) 0) (Ok (Returned 1056768)) None
    ∷ kernel_step 0 (Touch 256 Write) (Ok (Serves 256 257 rw false 0)) None
    ∷ kernel_step 0 (Touch 258 Write) (Ok (Serves 258 259 rw false 0)) None
    ∷ kernel_step 0 (Map 1052672 4096 rw 50 (negsuc 0) 0) (Ok (Returned 1052672)) None
    ∷ kernel_step 0 (Remap 1048576 12288 16384 1 0) (Err 14) (Some (plain 256 257 rw ∷ plain 257 259 rw ∷ []))
    ∷ []

-- border_refused: what the profile answers, and Linux
pub record BorderRefused : Type 0 where
  pub profile : IsByProfile (config 65536 140737354133504 65530 0 ([])) border_refused_by_profile
  pub linux_6_1 : IsAsRecorded (on_the_machine linux_6_1 false (config 4096 140737354133504 65530 0 ([]))) border_refused_by_linux_6_1
  pub linux_6_12 : IsAsRecorded (on_the_machine linux_6_12 false (config 4096 140737354133504 65530 0 ([]))) border_refused_by_linux
  pub linux_6_16 : IsAsRecorded (on_the_machine linux_6_16 false (config 4096 140737354133504 65530 0 ([]))) border_refused_by_linux
  pub linux_6_17 : IsAsRecorded (on_the_machine linux_6_17 false (config 4096 140737354133504 65530 0 ([]))) border_refused_by_linux
  pub linux_6_18_15 : IsAsRecorded (on_the_machine linux_6_18_15 false (config 4096 140737354133504 65530 0 ([]))) border_refused_by_linux
  pub linux_6_18 : IsAsRecorded (on_the_machine linux_6_18 false (config 4096 140737354133504 65530 0 ([]))) border_refused_by_linux
  pub linux_7_2 : IsAsRecorded (on_the_machine linux_7_2 false (config 4096 140737354133504 65530 0 ([]))) border_refused_by_linux

-- aligned_anonymous
abbrev pub aligned_anonymous_by_profile : List Step
aligned_anonymous_by_profile =
    kernel_step 0 (Map 0 4096 rw 34 (negsuc 0) 0) (Ok (Returned 140737354129408)) None
    ∷ kernel_step 0 (Map 0 2097152 rw 34 (negsuc 0) 0) (Ok (Returned 140737352032256)) (Some (plain 34359705086 34359705599 rw ∷ []))
    ∷ []

-- aligned_anonymous
abbrev pub aligned_anonymous_by_linux : List Step
aligned_anonymous_by_linux =
    kernel_step 0 (Map 0 4096 rw 34 (negsuc 0) 0) (Ok (Returned 140737354129408)) None
    ∷ kernel_step 0 (Map 0 2097152 rw 34 (negsuc 0) 0) (Ok (Returned 140737349943296)) (Some (plain 34359704576 34359705088 rw ∷ plain 34359705598 34359705599 rw ∷ []))
    ∷ []

-- aligned_anonymous: what the profile answers, and Linux
pub record AlignedAnonymous : Type 0 where
  pub profile : IsByProfile (config 65536 140737354133504 65530 0 ([])) aligned_anonymous_by_profile
  pub linux_6_1 : IsAsRecorded (on_the_machine linux_6_1 false (config 4096 140737354133504 65530 0 ([]))) aligned_anonymous_by_profile
  pub linux_6_12 : IsAsRecorded (on_the_machine linux_6_12 false (config 4096 140737354133504 65530 0 ([]))) aligned_anonymous_by_linux
  pub linux_6_16 : IsAsRecorded (on_the_machine linux_6_16 false (config 4096 140737354133504 65530 0 ([]))) aligned_anonymous_by_linux
  pub linux_6_17 : IsAsRecorded (on_the_machine linux_6_17 false (config 4096 140737354133504 65530 0 ([]))) aligned_anonymous_by_linux
  pub linux_6_18_15 : IsAsRecorded (on_the_machine linux_6_18_15 false (config 4096 140737354133504 65530 0 ([]))) aligned_anonymous_by_linux
  pub linux_6_18 : IsAsRecorded (on_the_machine linux_6_18 false (config 4096 140737354133504 65530 0 ([]))) aligned_anonymous_by_linux
  pub linux_7_2 : IsAsRecorded (on_the_machine linux_7_2 false (config 4096 140737354133504 65530 0 ([]))) aligned_anonymous_by_linux

-- aligned_file
abbrev pub aligned_file_by_profile : List Step
aligned_file_by_profile =
    kernel_step 0 (Map 0 4096 rw 34 (negsuc 0) 0) (Ok (Returned 140737354129408)) None
    ∷ kernel_step 0 (Map 0 2101248 r 2 (pos 3) 0) (Ok (Returned 140737352028160)) (Some (filed 34359705085 34359705598 r false 0 1 ∷ plain 34359705598 34359705599 rw ∷ []))
    ∷ []

-- aligned_file
abbrev pub aligned_file_by_linux : List Step
aligned_file_by_linux =
    kernel_step 0 (Map 0 4096 rw 34 (negsuc 0) 0) (Ok (Returned 140737354129408)) None
    ∷ kernel_step 0 (Map 0 2101248 r 2 (pos 3) 0) (Ok (Returned 140737349943296)) (Some (filed 34359704576 34359705089 r false 0 1 ∷ plain 34359705598 34359705599 rw ∷ []))
    ∷ []

-- aligned_file: what the profile answers, and Linux
pub record AlignedFile : Type 0 where
  pub profile : IsByProfile (config 65536 140737354133504 65530 0 (file_row 3 true false 4194304 ∷ [])) aligned_file_by_profile
  pub linux_6_1 : IsAsRecorded (on_the_machine linux_6_1 true (config 4096 140737354133504 65530 0 (file_row 3 true false 4194304 ∷ []))) aligned_file_by_linux
  pub linux_6_12 : IsAsRecorded (on_the_machine linux_6_12 true (config 4096 140737354133504 65530 0 (file_row 3 true false 4194304 ∷ []))) aligned_file_by_linux
  pub linux_6_16 : IsAsRecorded (on_the_machine linux_6_16 true (config 4096 140737354133504 65530 0 (file_row 3 true false 4194304 ∷ []))) aligned_file_by_linux
  pub linux_6_17 : IsAsRecorded (on_the_machine linux_6_17 true (config 4096 140737354133504 65530 0 (file_row 3 true false 4194304 ∷ []))) aligned_file_by_linux
  pub linux_6_18_15 : IsAsRecorded (on_the_machine linux_6_18_15 true (config 4096 140737354133504 65530 0 (file_row 3 true false 4194304 ∷ []))) aligned_file_by_linux
  pub linux_6_18 : IsAsRecorded (on_the_machine linux_6_18 true (config 4096 140737354133504 65530 0 (file_row 3 true false 4194304 ∷ []))) aligned_file_by_linux
  pub linux_7_2 : IsAsRecorded (on_the_machine linux_7_2 true (config 4096 140737354133504 65530 0 (file_row 3 true false 4194304 ∷ []))) aligned_file_by_linux

-- aligned_file_moved
abbrev pub aligned_file_moved_by_profile : List Step
aligned_file_moved_by_profile =
    kernel_step 0 (Map 1048576 2097152 r 18 (pos 3) 0) (Ok (Returned 1048576)) None
    ∷ kernel_step 0 (Map 3145728 4096 r 50 (negsuc 0) 0) (Ok (Returned 3145728)) None
    ∷ kernel_step 0 (Remap 1048576 2097152 2101248 1 0) (Ok (Returned 140737352032256)) (Some (plain 768 769 r ∷ filed 34359705086 34359705599 r false 0 1 ∷ []))
    ∷ []

-- aligned_file_moved
abbrev pub aligned_file_moved_by_linux : List Step
aligned_file_moved_by_linux =
    kernel_step 0 (Map 1048576 2097152 r 18 (pos 3) 0) (Ok (Returned 1048576)) None
    ∷ kernel_step 0 (Map 3145728 4096 r 50 (negsuc 0) 0) (Ok (Returned 3145728)) None
    ∷ kernel_step 0 (Remap 1048576 2097152 2101248 1 0) (Ok (Returned 140737349943296)) (Some (plain 768 769 r ∷ filed 34359704576 34359705089 r false 0 1 ∷ []))
    ∷ []

-- aligned_file_moved: what the profile answers, and Linux
pub record AlignedFileMoved : Type 0 where
  pub profile : IsByProfile (config 65536 140737354133504 65530 0 (file_row 3 true false 4194304 ∷ [])) aligned_file_moved_by_profile
  pub linux_6_1 : IsAsRecorded (on_the_machine linux_6_1 true (config 4096 140737354133504 65530 0 (file_row 3 true false 4194304 ∷ []))) aligned_file_moved_by_linux
  pub linux_6_12 : IsAsRecorded (on_the_machine linux_6_12 true (config 4096 140737354133504 65530 0 (file_row 3 true false 4194304 ∷ []))) aligned_file_moved_by_linux
  pub linux_6_16 : IsAsRecorded (on_the_machine linux_6_16 true (config 4096 140737354133504 65530 0 (file_row 3 true false 4194304 ∷ []))) aligned_file_moved_by_linux
  pub linux_6_17 : IsAsRecorded (on_the_machine linux_6_17 true (config 4096 140737354133504 65530 0 (file_row 3 true false 4194304 ∷ []))) aligned_file_moved_by_linux
  pub linux_6_18_15 : IsAsRecorded (on_the_machine linux_6_18_15 true (config 4096 140737354133504 65530 0 (file_row 3 true false 4194304 ∷ []))) aligned_file_moved_by_linux
  pub linux_6_18 : IsAsRecorded (on_the_machine linux_6_18 true (config 4096 140737354133504 65530 0 (file_row 3 true false 4194304 ∷ []))) aligned_file_moved_by_linux
  pub linux_7_2 : IsAsRecorded (on_the_machine linux_7_2 true (config 4096 140737354133504 65530 0 (file_row 3 true false 4194304 ∷ []))) aligned_file_moved_by_linux

-- aligned_moved
abbrev pub aligned_moved_by_profile : List Step
aligned_moved_by_profile =
    kernel_step 0 (Map 1048576 4096 rw 50 (negsuc 0) 0) (Ok (Returned 1048576)) None
    ∷ kernel_step 0 (Map 1052672 4096 r 50 (negsuc 0) 0) (Ok (Returned 1052672)) None
    ∷ kernel_step 0 (Map 0 4096 rw 34 (negsuc 0) 0) (Ok (Returned 140737354129408)) None
    ∷ kernel_step 0 (Remap 1048576 4096 2097152 1 0) (Ok (Returned 140737352032256)) (Some (plain 257 258 r ∷ plain 34359705086 34359705599 rw ∷ []))
    ∷ []

-- aligned_moved
abbrev pub aligned_moved_by_linux : List Step
aligned_moved_by_linux =
    kernel_step 0 (Map 1048576 4096 rw 50 (negsuc 0) 0) (Ok (Returned 1048576)) None
    ∷ kernel_step 0 (Map 1052672 4096 r 50 (negsuc 0) 0) (Ok (Returned 1052672)) None
    ∷ kernel_step 0 (Map 0 4096 rw 34 (negsuc 0) 0) (Ok (Returned 140737354129408)) None
    ∷ kernel_step 0 (Remap 1048576 4096 2097152 1 0) (Ok (Returned 140737349943296)) (Some (plain 257 258 r ∷ plain 34359704576 34359705088 rw ∷ plain 34359705598 34359705599 rw ∷ []))
    ∷ []

-- aligned_moved: what the profile answers, and Linux
pub record AlignedMoved : Type 0 where
  pub profile : IsByProfile (config 65536 140737354133504 65530 0 ([])) aligned_moved_by_profile
  pub linux_6_1 : IsAsRecorded (on_the_machine linux_6_1 false (config 4096 140737354133504 65530 0 ([]))) aligned_moved_by_profile
  pub linux_6_12 : IsAsRecorded (on_the_machine linux_6_12 false (config 4096 140737354133504 65530 0 ([]))) aligned_moved_by_linux
  pub linux_6_16 : IsAsRecorded (on_the_machine linux_6_16 false (config 4096 140737354133504 65530 0 ([]))) aligned_moved_by_linux
  pub linux_6_17 : IsAsRecorded (on_the_machine linux_6_17 false (config 4096 140737354133504 65530 0 ([]))) aligned_moved_by_linux
  pub linux_6_18_15 : IsAsRecorded (on_the_machine linux_6_18_15 false (config 4096 140737354133504 65530 0 ([]))) aligned_moved_by_linux
  pub linux_6_18 : IsAsRecorded (on_the_machine linux_6_18 false (config 4096 140737354133504 65530 0 ([]))) aligned_moved_by_linux
  pub linux_7_2 : IsAsRecorded (on_the_machine linux_7_2 false (config 4096 140737354133504 65530 0 ([]))) aligned_moved_by_linux

-- aligned_shared
abbrev pub aligned_shared_by_profile : List Step
aligned_shared_by_profile =
    kernel_step 0 (Map 0 4096 r 34 (negsuc 0) 0) (Ok (Returned 140737354129408)) None
    ∷ kernel_step 0 (Map 0 2097152 rw 33 (negsuc 0) 0) (Ok (Returned 140737352032256)) (Some (filed 34359705086 34359705598 rw true 0 1 ∷ plain 34359705598 34359705599 r ∷ []))
    ∷ []

-- aligned_shared
abbrev pub aligned_shared_by_linux : List Step
aligned_shared_by_linux =
    kernel_step 0 (Map 0 4096 r 34 (negsuc 0) 0) (Ok (Returned 140737354129408)) None
    ∷ kernel_step 0 (Map 0 2097152 rw 33 (negsuc 0) 0) (Ok (Returned 140737352032256)) (Some (filed 34359705086 34359705598 rw true 0 1 ∷ plain 34359705598 34359705599 r ∷ []))
    ∷ []

-- aligned_shared: what the profile answers, and Linux
pub record AlignedShared : Type 0 where
  pub profile : IsByProfile (config 65536 140737354133504 65530 0 ([])) aligned_shared_by_profile
  pub linux_6_1 : IsAsRecorded (on_the_machine linux_6_1 false (config 4096 140737354133504 65530 0 ([]))) aligned_shared_by_profile
  pub linux_6_12 : IsAsRecorded (on_the_machine linux_6_12 false (config 4096 140737354133504 65530 0 ([]))) aligned_shared_by_profile
  pub linux_6_16 : IsAsRecorded (on_the_machine linux_6_16 false (config 4096 140737354133504 65530 0 ([]))) aligned_shared_by_profile
  pub linux_6_17 : IsAsRecorded (on_the_machine linux_6_17 false (config 4096 140737354133504 65530 0 ([]))) aligned_shared_by_profile
  pub linux_6_18_15 : IsAsRecorded (on_the_machine linux_6_18_15 false (config 4096 140737354133504 65530 0 ([]))) aligned_shared_by_profile
  pub linux_6_18 : IsAsRecorded (on_the_machine linux_6_18 false (config 4096 140737354133504 65530 0 ([]))) aligned_shared_by_profile
  pub linux_7_2 : IsAsRecorded (on_the_machine linux_7_2 false (config 4096 140737354133504 65530 0 ([]))) aligned_shared_by_profile

-- aligned_file_in_memory
abbrev pub aligned_file_in_memory_by_profile : List Step
aligned_file_in_memory_by_profile =
    kernel_step 0 (Map 0 4096 r 34 (negsuc 0) 0) (Ok (Returned 140737354129408)) None
    ∷ kernel_step 0 (Map 0 2097152 r 2 (pos 3) 0) (Ok (Returned 140737352032256)) (Some (filed 34359705086 34359705598 r false 0 1 ∷ plain 34359705598 34359705599 r ∷ []))
    ∷ []

-- aligned_file_in_memory
abbrev pub aligned_file_in_memory_by_linux : List Step
aligned_file_in_memory_by_linux =
    kernel_step 0 (Map 0 4096 r 34 (negsuc 0) 0) (Ok (Returned 140737354129408)) None
    ∷ kernel_step 0 (Map 0 2097152 r 2 (pos 3) 0) (Ok (Returned 140737352032256)) (Some (filed 34359705086 34359705598 r false 0 1 ∷ plain 34359705598 34359705599 r ∷ []))
    ∷ []

-- aligned_file_in_memory: what the profile answers, and Linux
pub record AlignedFileInMemory : Type 0 where
  pub profile : IsByProfile (config 65536 140737354133504 65530 0 (file_row 3 true false 2097152 ∷ [])) aligned_file_in_memory_by_profile
  pub linux_6_1 : IsAsRecorded (on_the_machine linux_6_1 false (config 4096 140737354133504 65530 0 (file_row 3 true false 2097152 ∷ []))) aligned_file_in_memory_by_profile
  pub linux_6_12 : IsAsRecorded (on_the_machine linux_6_12 false (config 4096 140737354133504 65530 0 (file_row 3 true false 2097152 ∷ []))) aligned_file_in_memory_by_profile
  pub linux_6_16 : IsAsRecorded (on_the_machine linux_6_16 false (config 4096 140737354133504 65530 0 (file_row 3 true false 2097152 ∷ []))) aligned_file_in_memory_by_profile
  pub linux_6_17 : IsAsRecorded (on_the_machine linux_6_17 false (config 4096 140737354133504 65530 0 (file_row 3 true false 2097152 ∷ []))) aligned_file_in_memory_by_profile
  pub linux_6_18_15 : IsAsRecorded (on_the_machine linux_6_18_15 false (config 4096 140737354133504 65530 0 (file_row 3 true false 2097152 ∷ []))) aligned_file_in_memory_by_profile
  pub linux_6_18 : IsAsRecorded (on_the_machine linux_6_18 false (config 4096 140737354133504 65530 0 (file_row 3 true false 2097152 ∷ []))) aligned_file_in_memory_by_profile
  pub linux_7_2 : IsAsRecorded (on_the_machine linux_7_2 false (config 4096 140737354133504 65530 0 (file_row 3 true false 2097152 ∷ []))) aligned_file_in_memory_by_profile

-- all rows of this file
pub record AllRows1 : Type 0 where
  pub border_file : BorderFile
  pub border_written : BorderWritten
  pub border_gap : BorderGap
  pub border_between : BorderBetween
  pub border_moved : BorderMoved
  pub border_moved_back : BorderMovedBack
  pub border_stack : BorderStack
  pub border_noreserve : BorderNoreserve
  pub border_populate : BorderPopulate
  pub border_refused : BorderRefused
  pub aligned_anonymous : AlignedAnonymous
  pub aligned_file : AlignedFile
  pub aligned_file_moved : AlignedFileMoved
  pub aligned_moved : AlignedMoved
  pub aligned_shared : AlignedShared
  pub aligned_file_in_memory : AlignedFileInMemory
