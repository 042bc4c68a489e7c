-- Rows of docs/KERNEL.md. Made by dev/make-linux-rules from examples/kernel-rows.txt.
use Rattle.std.specs.Prelude.{List, ◌∷◌, [], true, false, negsuc, Some, None, Ok, Err}
use Rattle.linux_rules.specs.Versions.{linux_6_1, linux_6_12, linux_6_16, linux_6_17, linux_6_18_15, linux_6_18, linux_7_2}
use Rattle.linux_rules.specs.Steps.{Map, Protect, Seal, Returned, Step, none, r, rw, plain, filed, kernel_step, config}
use Rattle.linux_rules.specs.Recorded.{IsAsRecorded}
use Rattle.linux_beside.specs.Sides.{IsByProfile, on_the_machine}

-- limit_prefix
abbrev pub limit_prefix_by_profile : List Step
limit_prefix_by_profile =
    kernel_step 0 (Map 1048576 4096 rw 50 (negsuc 0) 0) (Ok (Returned 1048576)) None
    ∷ kernel_step 0 (Map 1052672 8192 rw 49 (negsuc 0) 0) (Ok (Returned 1052672)) None
    ∷ kernel_step 0 (Protect 1048576 8192 r) (Err 12) (Some (plain 256 257 rw ∷ filed 257 259 rw true 0 1 ∷ []))
    ∷ []

-- limit_prefix
abbrev pub limit_prefix_by_linux : List Step
limit_prefix_by_linux =
    kernel_step 0 (Map 1048576 4096 rw 50 (negsuc 0) 0) (Ok (Returned 1048576)) None
    ∷ kernel_step 0 (Map 1052672 8192 rw 49 (negsuc 0) 0) (Ok (Returned 1052672)) None
    ∷ kernel_step 0 (Protect 1048576 8192 r) (Err 12) (Some (plain 256 257 r ∷ filed 257 259 rw true 0 1 ∷ []))
    ∷ []

-- limit_prefix: what the profile answers, and Linux
pub record LimitPrefix : Type 0 where
  pub profile : IsByProfile (config 65536 140737354133504 2 0 ([])) limit_prefix_by_profile
  pub linux_6_1 : IsAsRecorded (on_the_machine linux_6_1 false (config 4096 140737354133504 2 0 ([]))) limit_prefix_by_linux
  pub linux_6_12 : IsAsRecorded (on_the_machine linux_6_12 false (config 4096 140737354133504 2 0 ([]))) limit_prefix_by_linux
  pub linux_6_16 : IsAsRecorded (on_the_machine linux_6_16 false (config 4096 140737354133504 2 0 ([]))) limit_prefix_by_linux
  pub linux_6_17 : IsAsRecorded (on_the_machine linux_6_17 false (config 4096 140737354133504 2 0 ([]))) limit_prefix_by_linux
  pub linux_6_18_15 : IsAsRecorded (on_the_machine linux_6_18_15 false (config 4096 140737354133504 2 0 ([]))) limit_prefix_by_linux
  pub linux_6_18 : IsAsRecorded (on_the_machine linux_6_18 false (config 4096 140737354133504 2 0 ([]))) limit_prefix_by_linux
  pub linux_7_2 : IsAsRecorded (on_the_machine linux_7_2 false (config 4096 140737354133504 2 0 ([]))) limit_prefix_by_linux

-- limit_prefix_seal
abbrev pub limit_prefix_seal_by_profile : List Step
limit_prefix_seal_by_profile =
    kernel_step 0 (Map 1048576 4096 rw 50 (negsuc 0) 0) (Ok (Returned 1048576)) None
    ∷ kernel_step 0 (Map 1052672 8192 rw 49 (negsuc 0) 0) (Ok (Returned 1052672)) None
    ∷ kernel_step 0 (Seal 1048576 8192 0) (Err 12) None
    ∷ kernel_step 0 (Protect 1048576 4096 r) (Ok (Returned 0)) (Some (plain 256 257 r ∷ filed 257 259 rw true 0 1 ∷ []))
    ∷ []

-- limit_prefix_seal
abbrev pub limit_prefix_seal_by_linux : List Step
limit_prefix_seal_by_linux =
    kernel_step 0 (Map 1048576 4096 rw 50 (negsuc 0) 0) (Ok (Returned 1048576)) None
    ∷ kernel_step 0 (Map 1052672 8192 rw 49 (negsuc 0) 0) (Ok (Returned 1052672)) None
    ∷ kernel_step 0 (Seal 1048576 8192 0) (Err 12) None
    ∷ kernel_step 0 (Protect 1048576 4096 r) (Err 1) (Some (plain 256 257 rw ∷ filed 257 259 rw true 0 1 ∷ []))
    ∷ []

-- limit_prefix_seal: what the profile answers, and Linux
pub record LimitPrefixSeal : Type 0 where
  pub profile : IsByProfile (config 65536 140737354133504 2 0 ([])) limit_prefix_seal_by_profile
  pub linux_6_12 : IsAsRecorded (on_the_machine linux_6_12 false (config 4096 140737354133504 2 0 ([]))) limit_prefix_seal_by_linux
  pub linux_6_16 : IsAsRecorded (on_the_machine linux_6_16 false (config 4096 140737354133504 2 0 ([]))) limit_prefix_seal_by_linux
  pub linux_6_17 : IsAsRecorded (on_the_machine linux_6_17 false (config 4096 140737354133504 2 0 ([]))) limit_prefix_seal_by_linux
  pub linux_6_18_15 : IsAsRecorded (on_the_machine linux_6_18_15 false (config 4096 140737354133504 2 0 ([]))) limit_prefix_seal_by_linux
  pub linux_6_18 : IsAsRecorded (on_the_machine linux_6_18 false (config 4096 140737354133504 2 0 ([]))) limit_prefix_seal_by_linux
  pub linux_7_2 : IsAsRecorded (on_the_machine linux_7_2 false (config 4096 140737354133504 2 0 ([]))) limit_prefix_seal_by_linux

-- limit_rights
abbrev pub limit_rights_by_profile : List Step
limit_rights_by_profile =
    kernel_step 0 (Map 1048576 8192 rw 50 (negsuc 0) 0) (Ok (Returned 1048576)) None
    ∷ kernel_step 0 (Map 1056768 4096 none 50 (negsuc 0) 0) (Ok (Returned 1056768)) None
    ∷ kernel_step 0 (Protect 1052672 8192 r) (Ok (Returned 0)) (Some (plain 256 257 rw ∷ plain 257 259 r ∷ []))
    ∷ []

-- limit_rights
abbrev pub limit_rights_by_linux : List Step
limit_rights_by_linux =
    kernel_step 0 (Map 1048576 8192 rw 50 (negsuc 0) 0) (Ok (Returned 1048576)) None
    ∷ kernel_step 0 (Map 1056768 4096 none 50 (negsuc 0) 0) (Ok (Returned 1056768)) None
    ∷ kernel_step 0 (Protect 1052672 8192 r) (Err 12) (Some (plain 256 258 rw ∷ plain 258 259 none ∷ []))
    ∷ []

-- limit_rights: what the profile answers, and Linux
pub record LimitRights : Type 0 where
  pub profile : IsByProfile (config 65536 140737354133504 2 0 ([])) limit_rights_by_profile
  pub linux_6_1 : IsAsRecorded (on_the_machine linux_6_1 false (config 4096 140737354133504 2 0 ([]))) limit_rights_by_linux
  pub linux_6_12 : IsAsRecorded (on_the_machine linux_6_12 false (config 4096 140737354133504 2 0 ([]))) limit_rights_by_linux
  pub linux_6_16 : IsAsRecorded (on_the_machine linux_6_16 false (config 4096 140737354133504 2 0 ([]))) limit_rights_by_linux
  pub linux_6_17 : IsAsRecorded (on_the_machine linux_6_17 false (config 4096 140737354133504 2 0 ([]))) limit_rights_by_linux
  pub linux_6_18_15 : IsAsRecorded (on_the_machine linux_6_18_15 false (config 4096 140737354133504 2 0 ([]))) limit_rights_by_linux
  pub linux_6_18 : IsAsRecorded (on_the_machine linux_6_18 false (config 4096 140737354133504 2 0 ([]))) limit_rights_by_linux
  pub linux_7_2 : IsAsRecorded (on_the_machine linux_7_2 false (config 4096 140737354133504 2 0 ([]))) limit_rights_by_linux

-- limit_rights_hole
abbrev pub limit_rights_hole_by_profile : List Step
limit_rights_hole_by_profile =
    kernel_step 0 (Map 1048576 8192 rw 50 (negsuc 0) 0) (Ok (Returned 1048576)) None
    ∷ kernel_step 0 (Map 1056768 4096 none 50 (negsuc 0) 0) (Ok (Returned 1056768)) None
    ∷ kernel_step 0 (Protect 1052672 12288 r) (Err 12) (Some (plain 256 257 rw ∷ plain 257 259 r ∷ []))
    ∷ []

-- limit_rights_hole
abbrev pub limit_rights_hole_by_linux : List Step
limit_rights_hole_by_linux =
    kernel_step 0 (Map 1048576 8192 rw 50 (negsuc 0) 0) (Ok (Returned 1048576)) None
    ∷ kernel_step 0 (Map 1056768 4096 none 50 (negsuc 0) 0) (Ok (Returned 1056768)) None
    ∷ kernel_step 0 (Protect 1052672 12288 r) (Err 12) (Some (plain 256 258 rw ∷ plain 258 259 none ∷ []))
    ∷ []

-- limit_rights_hole: what the profile answers, and Linux
pub record LimitRightsHole : Type 0 where
  pub profile : IsByProfile (config 65536 140737354133504 2 0 ([])) limit_rights_hole_by_profile
  pub linux_6_1 : IsAsRecorded (on_the_machine linux_6_1 false (config 4096 140737354133504 2 0 ([]))) limit_rights_hole_by_linux
  pub linux_6_12 : IsAsRecorded (on_the_machine linux_6_12 false (config 4096 140737354133504 2 0 ([]))) limit_rights_hole_by_linux
  pub linux_6_16 : IsAsRecorded (on_the_machine linux_6_16 false (config 4096 140737354133504 2 0 ([]))) limit_rights_hole_by_linux
  pub linux_6_17 : IsAsRecorded (on_the_machine linux_6_17 false (config 4096 140737354133504 2 0 ([]))) limit_rights_hole_by_linux
  pub linux_6_18_15 : IsAsRecorded (on_the_machine linux_6_18_15 false (config 4096 140737354133504 2 0 ([]))) limit_rights_hole_by_linux
  pub linux_6_18 : IsAsRecorded (on_the_machine linux_6_18 false (config 4096 140737354133504 2 0 ([]))) limit_rights_hole_by_linux
  pub linux_7_2 : IsAsRecorded (on_the_machine linux_7_2 false (config 4096 140737354133504 2 0 ([]))) limit_rights_hole_by_linux

-- all rows of this file
pub record AllRows7 : Type 0 where
  pub limit_prefix : LimitPrefix
  pub limit_prefix_seal : LimitPrefixSeal
  pub limit_rights : LimitRights
  pub limit_rights_hole : LimitRightsHole
