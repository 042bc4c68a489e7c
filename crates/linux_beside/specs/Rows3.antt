-- Rows of docs/KERNEL.md. Made by dev/make-linux-rules from examples/kernel-rows.txt.
use Rattle.std.specs.Prelude.{List, ◌∷◌, [], true, false, pos, negsuc, Some, None, Ok, Err}
use Rattle.linux_rules.specs.Versions.{linux_6_1, linux_6_12, linux_6_16, linux_6_17, linux_6_18_15, linux_6_18, linux_7_2}
use Rattle.linux_rules.specs.Steps.{Map, Remap, Returned, Step, r, rw, plain, kernel_step, file_row, config}
use Rattle.linux_rules.specs.Recorded.{IsAsRecorded}
use Rattle.linux_beside.specs.Sides.{IsByProfile, on_the_machine}

-- mremap_several
abbrev pub mremap_several_by_profile : List Step
mremap_several_by_profile =
    kernel_step 0 (Map 1048576 4096 rw 50 (negsuc 0) 0) (Ok (Returned 1048576)) None
    ∷ kernel_step 0 (Map 1052672 4096 r 50 (negsuc 0) 0) (Ok (Returned 1052672)) None
    ∷ kernel_step 0 (Remap 1048576 8192 8192 3 2097152) (Err 14) (Some (plain 256 257 rw ∷ plain 257 258 r ∷ []))
    ∷ []

-- mremap_several
abbrev pub mremap_several_by_linux : List Step
mremap_several_by_linux =
    kernel_step 0 (Map 1048576 4096 rw 50 (negsuc 0) 0) (Ok (Returned 1048576)) None
    ∷ kernel_step 0 (Map 1052672 4096 r 50 (negsuc 0) 0) (Ok (Returned 1052672)) None
    ∷ kernel_step 0 (Remap 1048576 8192 8192 3 2097152) (Ok (Returned 2097152)) (Some (plain 512 513 rw ∷ plain 513 514 r ∷ []))
    ∷ []

-- mremap_several: what the profile answers, and Linux
pub record MremapSeveral : Type 0 where
  pub profile : IsByProfile (config 65536 140737354133504 65530 0 ([])) mremap_several_by_profile
  pub linux_6_1 : IsAsRecorded (on_the_machine linux_6_1 false (config 4096 140737354133504 65530 0 ([]))) mremap_several_by_profile
  pub linux_6_12 : IsAsRecorded (on_the_machine linux_6_12 false (config 4096 140737354133504 65530 0 ([]))) mremap_several_by_profile
  pub linux_6_16 : IsAsRecorded (on_the_machine linux_6_16 false (config 4096 140737354133504 65530 0 ([]))) mremap_several_by_profile
  pub linux_6_17 : IsAsRecorded (on_the_machine linux_6_17 false (config 4096 140737354133504 65530 0 ([]))) mremap_several_by_linux
  pub linux_6_18_15 : IsAsRecorded (on_the_machine linux_6_18_15 false (config 4096 140737354133504 65530 0 ([]))) mremap_several_by_linux
  pub linux_6_18 : IsAsRecorded (on_the_machine linux_6_18 false (config 4096 140737354133504 65530 0 ([]))) mremap_several_by_linux
  pub linux_7_2 : IsAsRecorded (on_the_machine linux_7_2 false (config 4096 140737354133504 65530 0 ([]))) mremap_several_by_linux

-- mremap_several_hole
abbrev pub mremap_several_hole_by_profile : List Step
mremap_several_hole_by_profile =
    kernel_step 0 (Map 1048576 4096 rw 50 (negsuc 0) 0) (Ok (Returned 1048576)) None
    ∷ kernel_step 0 (Remap 1048576 8192 8192 3 2097152) (Err 14) (Some (plain 256 257 rw ∷ []))
    ∷ []

-- mremap_several_hole
abbrev pub mremap_several_hole_by_linux : List Step
mremap_several_hole_by_linux =
    kernel_step 0 (Map 1048576 4096 rw 50 (negsuc 0) 0) (Ok (Returned 1048576)) None
    ∷ kernel_step 0 (Remap 1048576 8192 8192 3 2097152) (Ok (Returned 2097152)) (Some (plain 512 513 rw ∷ []))
    ∷ []

-- mremap_several_hole: what the profile answers, and Linux
pub record MremapSeveralHole : Type 0 where
  pub profile : IsByProfile (config 65536 140737354133504 65530 0 ([])) mremap_several_hole_by_profile
  pub linux_6_1 : IsAsRecorded (on_the_machine linux_6_1 false (config 4096 140737354133504 65530 0 ([]))) mremap_several_hole_by_profile
  pub linux_6_12 : IsAsRecorded (on_the_machine linux_6_12 false (config 4096 140737354133504 65530 0 ([]))) mremap_several_hole_by_profile
  pub linux_6_16 : IsAsRecorded (on_the_machine linux_6_16 false (config 4096 140737354133504 65530 0 ([]))) mremap_several_hole_by_profile
  pub linux_6_17 : IsAsRecorded (on_the_machine linux_6_17 false (config 4096 140737354133504 65530 0 ([]))) mremap_several_hole_by_linux
  pub linux_6_18_15 : IsAsRecorded (on_the_machine linux_6_18_15 false (config 4096 140737354133504 65530 0 ([]))) mremap_several_hole_by_linux
  pub linux_6_18 : IsAsRecorded (on_the_machine linux_6_18 false (config 4096 140737354133504 65530 0 ([]))) mremap_several_hole_by_linux
  pub linux_7_2 : IsAsRecorded (on_the_machine linux_7_2 false (config 4096 140737354133504 65530 0 ([]))) mremap_several_hole_by_linux

-- mremap_cut_first
abbrev pub mremap_cut_first_by_profile : List Step
mremap_cut_first_by_profile =
    kernel_step 0 (Map 1048576 8192 rw 50 (negsuc 0) 0) (Ok (Returned 1048576)) None
    ∷ kernel_step 0 (Remap 1048576 8192 4096 3 0) (Err 1) (Some (plain 256 258 rw ∷ []))
    ∷ []

-- mremap_cut_first
abbrev pub mremap_cut_first_by_linux : List Step
mremap_cut_first_by_linux =
    kernel_step 0 (Map 1048576 8192 rw 50 (negsuc 0) 0) (Ok (Returned 1048576)) None
    ∷ kernel_step 0 (Remap 1048576 8192 4096 3 0) (Err 1) (Some (plain 256 257 rw ∷ []))
    ∷ []

-- mremap_cut_first: what the profile answers, and Linux
pub record MremapCutFirst : Type 0 where
  pub profile : IsByProfile (config 65536 140737354133504 65530 0 ([])) mremap_cut_first_by_profile
  pub linux_6_1 : IsAsRecorded (on_the_machine linux_6_1 false (config 4096 140737354133504 65530 0 ([]))) mremap_cut_first_by_linux
  pub linux_6_12 : IsAsRecorded (on_the_machine linux_6_12 false (config 4096 140737354133504 65530 0 ([]))) mremap_cut_first_by_linux
  pub linux_6_16 : IsAsRecorded (on_the_machine linux_6_16 false (config 4096 140737354133504 65530 0 ([]))) mremap_cut_first_by_linux
  pub linux_6_17 : IsAsRecorded (on_the_machine linux_6_17 false (config 4096 140737354133504 65530 0 ([]))) mremap_cut_first_by_linux
  pub linux_6_18_15 : IsAsRecorded (on_the_machine linux_6_18_15 false (config 4096 140737354133504 65530 0 ([]))) mremap_cut_first_by_linux
  pub linux_6_18 : IsAsRecorded (on_the_machine linux_6_18 false (config 4096 140737354133504 65530 0 ([]))) mremap_cut_first_by_linux
  pub linux_7_2 : IsAsRecorded (on_the_machine linux_7_2 false (config 4096 140737354133504 65530 0 ([]))) mremap_cut_first_by_linux

-- error_noreplace_access
abbrev pub error_noreplace_access_by_profile : List Step
error_noreplace_access_by_profile =
    kernel_step 0 (Map 1048576 4096 rw 50 (negsuc 0) 0) (Ok (Returned 1048576)) None
    ∷ kernel_step 0 (Map 1048576 4096 r 1048578 (pos 3) 0) (Err 13) (Some (plain 256 257 rw ∷ []))
    ∷ []

-- error_noreplace_access
abbrev pub error_noreplace_access_by_linux : List Step
error_noreplace_access_by_linux =
    kernel_step 0 (Map 1048576 4096 rw 50 (negsuc 0) 0) (Ok (Returned 1048576)) None
    ∷ kernel_step 0 (Map 1048576 4096 r 1048578 (pos 3) 0) (Err 17) (Some (plain 256 257 rw ∷ []))
    ∷ []

-- error_noreplace_access: what the profile answers, and Linux
pub record ErrorNoreplaceAccess : Type 0 where
  pub profile : IsByProfile (config 65536 140737354133504 65530 0 (file_row 3 false true 4096 ∷ [])) error_noreplace_access_by_profile
  pub linux_6_1 : IsAsRecorded (on_the_machine linux_6_1 false (config 4096 140737354133504 65530 0 (file_row 3 false true 4096 ∷ []))) error_noreplace_access_by_linux
  pub linux_6_12 : IsAsRecorded (on_the_machine linux_6_12 false (config 4096 140737354133504 65530 0 (file_row 3 false true 4096 ∷ []))) error_noreplace_access_by_linux
  pub linux_6_16 : IsAsRecorded (on_the_machine linux_6_16 false (config 4096 140737354133504 65530 0 (file_row 3 false true 4096 ∷ []))) error_noreplace_access_by_linux
  pub linux_6_17 : IsAsRecorded (on_the_machine linux_6_17 false (config 4096 140737354133504 65530 0 (file_row 3 false true 4096 ∷ []))) error_noreplace_access_by_linux
  pub linux_6_18_15 : IsAsRecorded (on_the_machine linux_6_18_15 false (config 4096 140737354133504 65530 0 (file_row 3 false true 4096 ∷ []))) error_noreplace_access_by_linux
  pub linux_6_18 : IsAsRecorded (on_the_machine linux_6_18 false (config 4096 140737354133504 65530 0 (file_row 3 false true 4096 ∷ []))) error_noreplace_access_by_linux
  pub linux_7_2 : IsAsRecorded (on_the_machine linux_7_2 false (config 4096 140737354133504 65530 0 (file_row 3 false true 4096 ∷ []))) error_noreplace_access_by_linux

-- error_unshared_limit
abbrev pub error_unshared_limit_by_profile : List Step
error_unshared_limit_by_profile =
    kernel_step 0 (Map 140737488351232 4096 r 48 (negsuc 0) 0) (Err 22) (Some ([]))
    ∷ []

-- error_unshared_limit
abbrev pub error_unshared_limit_by_linux : List Step
error_unshared_limit_by_linux =
    kernel_step 0 (Map 140737488351232 4096 r 48 (negsuc 0) 0) (Err 12) (Some ([]))
    ∷ []

-- error_unshared_limit: what the profile answers, and Linux
pub record ErrorUnsharedLimit : Type 0 where
  pub profile : IsByProfile (config 65536 140737354133504 65530 0 ([])) error_unshared_limit_by_profile
  pub linux_6_1 : IsAsRecorded (on_the_machine linux_6_1 false (config 4096 140737354133504 65530 0 ([]))) error_unshared_limit_by_linux
  pub linux_6_12 : IsAsRecorded (on_the_machine linux_6_12 false (config 4096 140737354133504 65530 0 ([]))) error_unshared_limit_by_linux
  pub linux_6_16 : IsAsRecorded (on_the_machine linux_6_16 false (config 4096 140737354133504 65530 0 ([]))) error_unshared_limit_by_linux
  pub linux_6_17 : IsAsRecorded (on_the_machine linux_6_17 false (config 4096 140737354133504 65530 0 ([]))) error_unshared_limit_by_linux
  pub linux_6_18_15 : IsAsRecorded (on_the_machine linux_6_18_15 false (config 4096 140737354133504 65530 0 ([]))) error_unshared_limit_by_linux
  pub linux_6_18 : IsAsRecorded (on_the_machine linux_6_18 false (config 4096 140737354133504 65530 0 ([]))) error_unshared_limit_by_linux
  pub linux_7_2 : IsAsRecorded (on_the_machine linux_7_2 false (config 4096 140737354133504 65530 0 ([]))) error_unshared_limit_by_linux

-- error_offset_odd
abbrev pub error_offset_odd_by_profile : List Step
error_offset_odd_by_profile =
    kernel_step 0 (Map 1048584 4096 r 18 (pos 3) 9223372036854771712) (Err 75) (Some ([]))
    ∷ []

-- error_offset_odd
abbrev pub error_offset_odd_by_linux : List Step
error_offset_odd_by_linux =
    kernel_step 0 (Map 1048584 4096 r 18 (pos 3) 9223372036854771712) (Err 22) (Some ([]))
    ∷ []

-- error_offset_odd: what the profile answers, and Linux
pub record ErrorOffsetOdd : Type 0 where
  pub profile : IsByProfile (config 65536 140737354133504 65530 0 (file_row 3 true false 4096 ∷ [])) error_offset_odd_by_profile
  pub linux_6_1 : IsAsRecorded (on_the_machine linux_6_1 false (config 4096 140737354133504 65530 0 (file_row 3 true false 4096 ∷ []))) error_offset_odd_by_linux
  pub linux_6_12 : IsAsRecorded (on_the_machine linux_6_12 false (config 4096 140737354133504 65530 0 (file_row 3 true false 4096 ∷ []))) error_offset_odd_by_linux
  pub linux_6_16 : IsAsRecorded (on_the_machine linux_6_16 false (config 4096 140737354133504 65530 0 (file_row 3 true false 4096 ∷ []))) error_offset_odd_by_linux
  pub linux_6_17 : IsAsRecorded (on_the_machine linux_6_17 false (config 4096 140737354133504 65530 0 (file_row 3 true false 4096 ∷ []))) error_offset_odd_by_linux
  pub linux_6_18_15 : IsAsRecorded (on_the_machine linux_6_18_15 false (config 4096 140737354133504 65530 0 (file_row 3 true false 4096 ∷ []))) error_offset_odd_by_linux
  pub linux_6_18 : IsAsRecorded (on_the_machine linux_6_18 false (config 4096 140737354133504 65530 0 (file_row 3 true false 4096 ∷ []))) error_offset_odd_by_linux
  pub linux_7_2 : IsAsRecorded (on_the_machine linux_7_2 false (config 4096 140737354133504 65530 0 (file_row 3 true false 4096 ∷ []))) error_offset_odd_by_linux

-- error_move_below_min
abbrev pub error_move_below_min_by_profile : List Step
error_move_below_min_by_profile =
    kernel_step 0 (Remap 1048576 4096 4096 3 0) (Err 1) (Some ([]))
    ∷ []

-- error_move_below_min
abbrev pub error_move_below_min_by_linux : List Step
error_move_below_min_by_linux =
    kernel_step 0 (Remap 1048576 4096 4096 3 0) (Err 14) (Some ([]))
    ∷ []

-- error_move_below_min: what the profile answers, and Linux
pub record ErrorMoveBelowMin : Type 0 where
  pub profile : IsByProfile (config 65536 140737354133504 65530 0 ([])) error_move_below_min_by_profile
  pub linux_6_1 : IsAsRecorded (on_the_machine linux_6_1 false (config 4096 140737354133504 65530 0 ([]))) error_move_below_min_by_linux
  pub linux_6_12 : IsAsRecorded (on_the_machine linux_6_12 false (config 4096 140737354133504 65530 0 ([]))) error_move_below_min_by_linux
  pub linux_6_16 : IsAsRecorded (on_the_machine linux_6_16 false (config 4096 140737354133504 65530 0 ([]))) error_move_below_min_by_linux
  pub linux_6_17 : IsAsRecorded (on_the_machine linux_6_17 false (config 4096 140737354133504 65530 0 ([]))) error_move_below_min_by_linux
  pub linux_6_18_15 : IsAsRecorded (on_the_machine linux_6_18_15 false (config 4096 140737354133504 65530 0 ([]))) error_move_below_min_by_linux
  pub linux_6_18 : IsAsRecorded (on_the_machine linux_6_18 false (config 4096 140737354133504 65530 0 ([]))) error_move_below_min_by_linux
  pub linux_7_2 : IsAsRecorded (on_the_machine linux_7_2 false (config 4096 140737354133504 65530 0 ([]))) error_move_below_min_by_linux

-- error_move_odd
abbrev pub error_move_odd_by_profile : List Step
error_move_odd_by_profile =
    kernel_step 0 (Remap 140737488351232 4096 4096 3 2097160) (Err 14) (Some ([]))
    ∷ []

-- error_move_odd
abbrev pub error_move_odd_by_linux : List Step
error_move_odd_by_linux =
    kernel_step 0 (Remap 140737488351232 4096 4096 3 2097160) (Err 22) (Some ([]))
    ∷ []

-- error_move_odd: what the profile answers, and Linux
pub record ErrorMoveOdd : Type 0 where
  pub profile : IsByProfile (config 65536 140737354133504 65530 0 ([])) error_move_odd_by_profile
  pub linux_6_1 : IsAsRecorded (on_the_machine linux_6_1 false (config 4096 140737354133504 65530 0 ([]))) error_move_odd_by_profile
  pub linux_6_12 : IsAsRecorded (on_the_machine linux_6_12 false (config 4096 140737354133504 65530 0 ([]))) error_move_odd_by_profile
  pub linux_6_16 : IsAsRecorded (on_the_machine linux_6_16 false (config 4096 140737354133504 65530 0 ([]))) error_move_odd_by_linux
  pub linux_6_17 : IsAsRecorded (on_the_machine linux_6_17 false (config 4096 140737354133504 65530 0 ([]))) error_move_odd_by_linux
  pub linux_6_18_15 : IsAsRecorded (on_the_machine linux_6_18_15 false (config 4096 140737354133504 65530 0 ([]))) error_move_odd_by_linux
  pub linux_6_18 : IsAsRecorded (on_the_machine linux_6_18 false (config 4096 140737354133504 65530 0 ([]))) error_move_odd_by_linux
  pub linux_7_2 : IsAsRecorded (on_the_machine linux_7_2 false (config 4096 140737354133504 65530 0 ([]))) error_move_odd_by_linux

-- error_growing_shared
abbrev pub error_growing_shared_by_profile : List Step
error_growing_shared_by_profile =
    kernel_step 0 (Map 0 4096 r 305 (negsuc 0) 0) (Err 22) (Some ([]))
    ∷ []

-- error_growing_shared
abbrev pub error_growing_shared_by_linux : List Step
error_growing_shared_by_linux =
    kernel_step 0 (Map 0 4096 r 305 (negsuc 0) 0) (Err 1) (Some ([]))
    ∷ []

-- error_growing_shared: what the profile answers, and Linux
pub record ErrorGrowingShared : Type 0 where
  pub profile : IsByProfile (config 65536 140737354133504 65530 0 ([])) error_growing_shared_by_profile
  pub linux_6_1 : IsAsRecorded (on_the_machine linux_6_1 false (config 4096 140737354133504 65530 0 ([]))) error_growing_shared_by_linux
  pub linux_6_12 : IsAsRecorded (on_the_machine linux_6_12 false (config 4096 140737354133504 65530 0 ([]))) error_growing_shared_by_linux
  pub linux_6_16 : IsAsRecorded (on_the_machine linux_6_16 false (config 4096 140737354133504 65530 0 ([]))) error_growing_shared_by_linux
  pub linux_6_17 : IsAsRecorded (on_the_machine linux_6_17 false (config 4096 140737354133504 65530 0 ([]))) error_growing_shared_by_linux
  pub linux_6_18_15 : IsAsRecorded (on_the_machine linux_6_18_15 false (config 4096 140737354133504 65530 0 ([]))) error_growing_shared_by_linux
  pub linux_6_18 : IsAsRecorded (on_the_machine linux_6_18 false (config 4096 140737354133504 65530 0 ([]))) error_growing_shared_by_linux
  pub linux_7_2 : IsAsRecorded (on_the_machine linux_7_2 false (config 4096 140737354133504 65530 0 ([]))) error_growing_shared_by_linux

-- error_growing_file
abbrev pub error_growing_file_by_profile : List Step
error_growing_file_by_profile =
    kernel_step 0 (Map 1048576 4096 r 274 (pos 3) 0) (Err 22) (Some ([]))
    ∷ []

-- error_growing_file
abbrev pub error_growing_file_by_linux : List Step
error_growing_file_by_linux =
    kernel_step 0 (Map 1048576 4096 r 274 (pos 3) 0) (Err 13) (Some ([]))
    ∷ []

-- error_growing_file: what the profile answers, and Linux
pub record ErrorGrowingFile : Type 0 where
  pub profile : IsByProfile (config 65536 140737354133504 65530 0 (file_row 3 false true 4096 ∷ [])) error_growing_file_by_profile
  pub linux_6_1 : IsAsRecorded (on_the_machine linux_6_1 false (config 4096 140737354133504 65530 0 (file_row 3 false true 4096 ∷ []))) error_growing_file_by_linux
  pub linux_6_12 : IsAsRecorded (on_the_machine linux_6_12 false (config 4096 140737354133504 65530 0 (file_row 3 false true 4096 ∷ []))) error_growing_file_by_linux
  pub linux_6_16 : IsAsRecorded (on_the_machine linux_6_16 false (config 4096 140737354133504 65530 0 (file_row 3 false true 4096 ∷ []))) error_growing_file_by_linux
  pub linux_6_17 : IsAsRecorded (on_the_machine linux_6_17 false (config 4096 140737354133504 65530 0 (file_row 3 false true 4096 ∷ []))) error_growing_file_by_linux
  pub linux_6_18_15 : IsAsRecorded (on_the_machine linux_6_18_15 false (config 4096 140737354133504 65530 0 (file_row 3 false true 4096 ∷ []))) error_growing_file_by_linux
  pub linux_6_18 : IsAsRecorded (on_the_machine linux_6_18 false (config 4096 140737354133504 65530 0 (file_row 3 false true 4096 ∷ []))) error_growing_file_by_linux
  pub linux_7_2 : IsAsRecorded (on_the_machine linux_7_2 false (config 4096 140737354133504 65530 0 (file_row 3 false true 4096 ∷ []))) error_growing_file_by_linux

-- error_noreplace_below_min
abbrev pub error_noreplace_below_min_by_profile : List Step
error_noreplace_below_min_by_profile =
    kernel_step 0 (Map 32768 4096 rw 50 (negsuc 0) 0) (Err 1) None
    ∷ kernel_step 0 (Map 32768 4096 r 1048610 (negsuc 0) 0) (Err 1) (Some ([]))
    ∷ []

-- error_noreplace_below_min
abbrev pub error_noreplace_below_min_by_linux : List Step
error_noreplace_below_min_by_linux =
    kernel_step 0 (Map 32768 4096 rw 50 (negsuc 0) 0) (Ok (Returned 32768)) None
    ∷ kernel_step 0 (Map 32768 4096 r 1048610 (negsuc 0) 0) (Err 17) (Some (plain 8 9 rw ∷ []))
    ∷ []

-- error_noreplace_below_min: what the profile answers, and Linux
pub record ErrorNoreplaceBelowMin : Type 0 where
  pub profile : IsByProfile (config 65536 140737354133504 65530 0 ([])) error_noreplace_below_min_by_profile
  pub linux_6_1 : IsAsRecorded (on_the_machine linux_6_1 false (config 4096 140737354133504 65530 0 ([]))) error_noreplace_below_min_by_linux
  pub linux_6_12 : IsAsRecorded (on_the_machine linux_6_12 false (config 4096 140737354133504 65530 0 ([]))) error_noreplace_below_min_by_linux
  pub linux_6_16 : IsAsRecorded (on_the_machine linux_6_16 false (config 4096 140737354133504 65530 0 ([]))) error_noreplace_below_min_by_linux
  pub linux_6_17 : IsAsRecorded (on_the_machine linux_6_17 false (config 4096 140737354133504 65530 0 ([]))) error_noreplace_below_min_by_linux
  pub linux_6_18_15 : IsAsRecorded (on_the_machine linux_6_18_15 false (config 4096 140737354133504 65530 0 ([]))) error_noreplace_below_min_by_linux
  pub linux_6_18 : IsAsRecorded (on_the_machine linux_6_18 false (config 4096 140737354133504 65530 0 ([]))) error_noreplace_below_min_by_linux
  pub linux_7_2 : IsAsRecorded (on_the_machine linux_7_2 false (config 4096 140737354133504 65530 0 ([]))) error_noreplace_below_min_by_linux

-- error_unaligned_limit
abbrev pub error_unaligned_limit_by_profile : List Step
error_unaligned_limit_by_profile =
    kernel_step 0 (Map 140737488396296 4096 r 50 (negsuc 0) 0) (Err 22) (Some ([]))
    ∷ []

-- error_unaligned_limit
abbrev pub error_unaligned_limit_by_linux : List Step
error_unaligned_limit_by_linux =
    kernel_step 0 (Map 140737488396296 4096 r 50 (negsuc 0) 0) (Err 12) (Some ([]))
    ∷ []

-- error_unaligned_limit: what the profile answers, and Linux
pub record ErrorUnalignedLimit : Type 0 where
  pub profile : IsByProfile (config 65536 140737354133504 65530 0 ([])) error_unaligned_limit_by_profile
  pub linux_6_1 : IsAsRecorded (on_the_machine linux_6_1 false (config 4096 140737354133504 65530 0 ([]))) error_unaligned_limit_by_linux
  pub linux_6_12 : IsAsRecorded (on_the_machine linux_6_12 false (config 4096 140737354133504 65530 0 ([]))) error_unaligned_limit_by_linux
  pub linux_6_16 : IsAsRecorded (on_the_machine linux_6_16 false (config 4096 140737354133504 65530 0 ([]))) error_unaligned_limit_by_linux
  pub linux_6_17 : IsAsRecorded (on_the_machine linux_6_17 false (config 4096 140737354133504 65530 0 ([]))) error_unaligned_limit_by_linux
  pub linux_6_18_15 : IsAsRecorded (on_the_machine linux_6_18_15 false (config 4096 140737354133504 65530 0 ([]))) error_unaligned_limit_by_linux
  pub linux_6_18 : IsAsRecorded (on_the_machine linux_6_18 false (config 4096 140737354133504 65530 0 ([]))) error_unaligned_limit_by_linux
  pub linux_7_2 : IsAsRecorded (on_the_machine linux_7_2 false (config 4096 140737354133504 65530 0 ([]))) error_unaligned_limit_by_linux

-- error_unaligned_end
abbrev pub error_unaligned_end_by_profile : List Step
error_unaligned_end_by_profile =
    kernel_step 0 (Map 140737488351231 4096 r 50 (negsuc 0) 0) (Err 22) (Some ([]))
    ∷ []

-- error_unaligned_end
abbrev pub error_unaligned_end_by_linux : List Step
error_unaligned_end_by_linux =
    kernel_step 0 (Map 140737488351231 4096 r 50 (negsuc 0) 0) (Err 12) (Some ([]))
    ∷ []

-- error_unaligned_end: what the profile answers, and Linux
pub record ErrorUnalignedEnd : Type 0 where
  pub profile : IsByProfile (config 65536 140737354133504 65530 0 ([])) error_unaligned_end_by_profile
  pub linux_6_1 : IsAsRecorded (on_the_machine linux_6_1 false (config 4096 140737354133504 65530 0 ([]))) error_unaligned_end_by_linux
  pub linux_6_12 : IsAsRecorded (on_the_machine linux_6_12 false (config 4096 140737354133504 65530 0 ([]))) error_unaligned_end_by_linux
  pub linux_6_16 : IsAsRecorded (on_the_machine linux_6_16 false (config 4096 140737354133504 65530 0 ([]))) error_unaligned_end_by_linux
  pub linux_6_17 : IsAsRecorded (on_the_machine linux_6_17 false (config 4096 140737354133504 65530 0 ([]))) error_unaligned_end_by_linux
  pub linux_6_18_15 : IsAsRecorded (on_the_machine linux_6_18_15 false (config 4096 140737354133504 65530 0 ([]))) error_unaligned_end_by_linux
  pub linux_6_18 : IsAsRecorded (on_the_machine linux_6_18 false (config 4096 140737354133504 65530 0 ([]))) error_unaligned_end_by_linux
  pub linux_7_2 : IsAsRecorded (on_the_machine linux_7_2 false (config 4096 140737354133504 65530 0 ([]))) error_unaligned_end_by_linux

-- error_place_first
abbrev pub error_place_first_by_profile : List Step
error_place_first_by_profile =
    kernel_step 0 (Map 32768 140737488351232 r 50 (negsuc 0) 0) (Err 1) (Some ([]))
    ∷ []

-- error_place_first
abbrev pub error_place_first_by_linux : List Step
error_place_first_by_linux =
    kernel_step 0 (Map 32768 140737488351232 r 50 (negsuc 0) 0) (Err 12) (Some ([]))
    ∷ []

-- error_place_first: what the profile answers, and Linux
pub record ErrorPlaceFirst : Type 0 where
  pub profile : IsByProfile (config 65536 140737354133504 65530 0 ([])) error_place_first_by_profile
  pub linux_6_1 : IsAsRecorded (on_the_machine linux_6_1 false (config 4096 140737354133504 65530 0 ([]))) error_place_first_by_linux
  pub linux_6_12 : IsAsRecorded (on_the_machine linux_6_12 false (config 4096 140737354133504 65530 0 ([]))) error_place_first_by_linux
  pub linux_6_16 : IsAsRecorded (on_the_machine linux_6_16 false (config 4096 140737354133504 65530 0 ([]))) error_place_first_by_linux
  pub linux_6_17 : IsAsRecorded (on_the_machine linux_6_17 false (config 4096 140737354133504 65530 0 ([]))) error_place_first_by_linux
  pub linux_6_18_15 : IsAsRecorded (on_the_machine linux_6_18_15 false (config 4096 140737354133504 65530 0 ([]))) error_place_first_by_linux
  pub linux_6_18 : IsAsRecorded (on_the_machine linux_6_18 false (config 4096 140737354133504 65530 0 ([]))) error_place_first_by_linux
  pub linux_7_2 : IsAsRecorded (on_the_machine linux_7_2 false (config 4096 140737354133504 65530 0 ([]))) error_place_first_by_linux

-- error_shared_growing_noreplace
abbrev pub error_shared_growing_noreplace_by_profile : List Step
error_shared_growing_noreplace_by_profile =
    kernel_step 0 (Map 1048576 4096 rw 50 (negsuc 0) 0) (Ok (Returned 1048576)) None
    ∷ kernel_step 0 (Map 1048576 4096 r 1048865 (negsuc 0) 0) (Err 22) (Some (plain 256 257 rw ∷ []))
    ∷ []

-- error_shared_growing_noreplace
abbrev pub error_shared_growing_noreplace_by_linux : List Step
error_shared_growing_noreplace_by_linux =
    kernel_step 0 (Map 1048576 4096 rw 50 (negsuc 0) 0) (Ok (Returned 1048576)) None
    ∷ kernel_step 0 (Map 1048576 4096 r 1048865 (negsuc 0) 0) (Err 17) (Some (plain 256 257 rw ∷ []))
    ∷ []

-- error_shared_growing_noreplace: what the profile answers, and Linux
pub record ErrorSharedGrowingNoreplace : Type 0 where
  pub profile : IsByProfile (config 65536 140737354133504 65530 0 ([])) error_shared_growing_noreplace_by_profile
  pub linux_6_1 : IsAsRecorded (on_the_machine linux_6_1 false (config 4096 140737354133504 65530 0 ([]))) error_shared_growing_noreplace_by_linux
  pub linux_6_12 : IsAsRecorded (on_the_machine linux_6_12 false (config 4096 140737354133504 65530 0 ([]))) error_shared_growing_noreplace_by_linux
  pub linux_6_16 : IsAsRecorded (on_the_machine linux_6_16 false (config 4096 140737354133504 65530 0 ([]))) error_shared_growing_noreplace_by_linux
  pub linux_6_17 : IsAsRecorded (on_the_machine linux_6_17 false (config 4096 140737354133504 65530 0 ([]))) error_shared_growing_noreplace_by_linux
  pub linux_6_18_15 : IsAsRecorded (on_the_machine linux_6_18_15 false (config 4096 140737354133504 65530 0 ([]))) error_shared_growing_noreplace_by_linux
  pub linux_6_18 : IsAsRecorded (on_the_machine linux_6_18 false (config 4096 140737354133504 65530 0 ([]))) error_shared_growing_noreplace_by_linux
  pub linux_7_2 : IsAsRecorded (on_the_machine linux_7_2 false (config 4096 140737354133504 65530 0 ([]))) error_shared_growing_noreplace_by_linux

-- error_validate_limit
abbrev pub error_validate_limit_by_profile : List Step
error_validate_limit_by_profile =
    kernel_step 0 (Map 140737488375808 4096 r 51 (negsuc 0) 0) (Err 22) (Some ([]))
    ∷ []

-- error_validate_limit
abbrev pub error_validate_limit_by_linux : List Step
error_validate_limit_by_linux =
    kernel_step 0 (Map 140737488375808 4096 r 51 (negsuc 0) 0) (Err 12) (Some ([]))
    ∷ []

-- error_validate_limit: what the profile answers, and Linux
pub record ErrorValidateLimit : Type 0 where
  pub profile : IsByProfile (config 65536 140737354133504 65530 0 ([])) error_validate_limit_by_profile
  pub linux_6_1 : IsAsRecorded (on_the_machine linux_6_1 false (config 4096 140737354133504 65530 0 ([]))) error_validate_limit_by_linux
  pub linux_6_12 : IsAsRecorded (on_the_machine linux_6_12 false (config 4096 140737354133504 65530 0 ([]))) error_validate_limit_by_linux
  pub linux_6_16 : IsAsRecorded (on_the_machine linux_6_16 false (config 4096 140737354133504 65530 0 ([]))) error_validate_limit_by_linux
  pub linux_6_17 : IsAsRecorded (on_the_machine linux_6_17 false (config 4096 140737354133504 65530 0 ([]))) error_validate_limit_by_linux
  pub linux_6_18_15 : IsAsRecorded (on_the_machine linux_6_18_15 false (config 4096 140737354133504 65530 0 ([]))) error_validate_limit_by_linux
  pub linux_6_18 : IsAsRecorded (on_the_machine linux_6_18 false (config 4096 140737354133504 65530 0 ([]))) error_validate_limit_by_linux
  pub linux_7_2 : IsAsRecorded (on_the_machine linux_7_2 false (config 4096 140737354133504 65530 0 ([]))) error_validate_limit_by_linux

-- all rows of this file
pub record AllRows3 : Type 0 where
  pub mremap_several : MremapSeveral
  pub mremap_several_hole : MremapSeveralHole
  pub mremap_cut_first : MremapCutFirst
  pub error_noreplace_access : ErrorNoreplaceAccess
  pub error_unshared_limit : ErrorUnsharedLimit
  pub error_offset_odd : ErrorOffsetOdd
  pub error_move_below_min : ErrorMoveBelowMin
  pub error_move_odd : ErrorMoveOdd
  pub error_growing_shared : ErrorGrowingShared
  pub error_growing_file : ErrorGrowingFile
  pub error_noreplace_below_min : ErrorNoreplaceBelowMin
  pub error_unaligned_limit : ErrorUnalignedLimit
  pub error_unaligned_end : ErrorUnalignedEnd
  pub error_place_first : ErrorPlaceFirst
  pub error_shared_growing_noreplace : ErrorSharedGrowingNoreplace
  pub error_validate_limit : ErrorValidateLimit
