-- What Linux 6.17.13 answered to 40 traces. Made by dev/make-linux-rules from suite/.
use Rattle.std.specs.Prelude.{List, ◌∷◌, [], true, false, pos, negsuc, Some, None, Ok, Err}
use Rattle.mm_types.specs.declared.area.Access.TheVariants.{Read, Write, Exec}
use Rattle.linux_rules.specs.declared.kernel.Kernel.{Kernel}
use Rattle.linux_rules.specs.declared.kernel.Vsyscall.TheVariants.{Xonly}
use Rattle.linux_rules.specs.declared.verdict.LinuxVerdict.TheVariants.{MapErr, AccErr, PkuErr, BusErr}
use Rattle.linux_rules.specs.Versions.{linux_6_17}
use Rattle.linux_rules.specs.Steps.{Map, Unmap, Protect, Remap, Break, Seal, Touch, Fork, Returned, Serves, Signal, Step, none, r, w, x, rw, rx, rwx, plain, heap, filed, kernel_step, file_row, config}
use Rattle.linux_rules.specs.Recorded.{IsAsRecorded}

-- hard_3: the kernel
abbrev pub hard_3_on : Kernel
hard_3_on = record { rules = linux_6_17; machine = record { lowest_built = 16; memory = 245000; stack = 8388608; has_keys = true; huge_always = true; files_are_huge = false; vsyscall = Xonly }; config = config 4096 140737354133504 65530 0 ([]) }

-- hard_3: its answers
abbrev pub hard_3 : List Step
hard_3 =
    kernel_step 0 (Map 1097728 12288 rw 50 (negsuc 0) 0) (Ok (Returned 1097728)) (Some (plain 268 271 rw ∷ []))
    ∷ kernel_step 0 (Map 1097728 12288 rw 50 (negsuc 0) 0) (Ok (Returned 1097728)) (Some (plain 268 271 rw ∷ []))
    ∷ kernel_step 0 (Remap 1097728 12288 8192 0 0) (Ok (Returned 1097728)) (Some (plain 268 270 rw ∷ []))
    ∷ kernel_step 0 (Remap 1097728 4096 8192 3 1105920) (Ok (Returned 1105920)) (Some (plain 269 272 rw ∷ []))
    ∷ kernel_step 0 (Touch 274 Read) (Ok (Signal MapErr)) None
    ∷ kernel_step 0 (Map 1085440 16384 rw 49 (negsuc 0) 0) (Ok (Returned 1085440)) (Some (filed 265 269 rw true 0 1 ∷ plain 269 272 rw ∷ []))
    ∷ kernel_step 0 (Protect 1060864 8192 rw) (Err 12) (Some (filed 265 269 rw true 0 1 ∷ plain 269 272 rw ∷ []))
    ∷ kernel_step 0 (Protect 1085440 16384 r) (Ok (Returned 0)) (Some (filed 265 269 r true 0 1 ∷ plain 269 272 rw ∷ []))
    ∷ kernel_step 0 (Remap 1085440 16384 24576 1 0) (Ok (Returned 140737354108928)) (Some (plain 269 272 rw ∷ filed 34359705593 34359705599 r true 0 1 ∷ []))
    ∷ kernel_step 0 (Map 1105920 4096 rw 1048610 (negsuc 0) 0) (Err 17) (Some (plain 269 272 rw ∷ filed 34359705593 34359705599 r true 0 1 ∷ []))
    ∷ kernel_step 0 (Touch 270 Write) (Ok (Serves 269 272 rw false 0)) None
    ∷ kernel_step 0 (Protect 1101824 4096 r) (Ok (Returned 0)) (Some (plain 269 270 r ∷ plain 270 272 rw ∷ filed 34359705593 34359705599 r true 0 1 ∷ []))
    ∷ kernel_step 0 (Map 1064960 12288 rw 50 (negsuc 0) 0) (Ok (Returned 1064960)) (Some (plain 260 263 rw ∷ plain 269 270 r ∷ plain 270 272 rw ∷ filed 34359705593 34359705599 r true 0 1 ∷ []))
    ∷ kernel_step 0 (Map 1097728 4096 r 50 (negsuc 0) 0) (Ok (Returned 1097728)) (Some (plain 260 263 rw ∷ plain 268 269 r ∷ plain 269 270 r ∷ plain 270 272 rw ∷ filed 34359705593 34359705599 r true 0 1 ∷ []))
    ∷ kernel_step 0 (Touch 271 Write) (Ok (Serves 270 272 rw false 0)) None
    ∷ kernel_step 0 (Touch 264 Write) (Ok (Signal MapErr)) None
    ∷ kernel_step 0 (Map 1064960 12288 r 32802 (negsuc 0) 0) (Ok (Returned 140737354096640)) (Some (plain 260 263 rw ∷ plain 268 269 r ∷ plain 269 270 r ∷ plain 270 272 rw ∷ plain 34359705590 34359705593 r ∷ filed 34359705593 34359705599 r true 0 1 ∷ []))
    ∷ kernel_step 0 (Touch 270 Write) (Ok (Serves 270 272 rw false 0)) None
    ∷ kernel_step 0 (Touch 270 Write) (Ok (Serves 270 272 rw false 0)) None
    ∷ kernel_step 0 (Protect 1097728 4096 rw) (Ok (Returned 0)) (Some (plain 260 263 rw ∷ plain 268 269 rw ∷ plain 269 270 r ∷ plain 270 272 rw ∷ plain 34359705590 34359705593 r ∷ filed 34359705593 34359705599 r true 0 1 ∷ []))
    ∷ kernel_step 0 (Map 1101824 4096 r 16433 (negsuc 0) 0) (Ok (Returned 1101824)) (Some (plain 260 263 rw ∷ plain 268 269 rw ∷ filed 269 270 r true 0 2 ∷ plain 270 272 rw ∷ plain 34359705590 34359705593 r ∷ filed 34359705593 34359705599 r true 0 1 ∷ []))
    ∷ kernel_step 0 (Map 140737354108928 16384 r 49 (negsuc 0) 0) (Ok (Returned 140737354108928)) (Some (plain 260 263 rw ∷ plain 268 269 rw ∷ filed 269 270 r true 0 2 ∷ plain 270 272 rw ∷ plain 34359705590 34359705593 r ∷ filed 34359705593 34359705597 r true 0 3 ∷ filed 34359705597 34359705599 r true 16384 1 ∷ []))
    ∷ kernel_step 0 (Map 140737354096640 12288 rw 50 (negsuc 0) 0) (Ok (Returned 140737354096640)) (Some (plain 260 263 rw ∷ plain 268 269 rw ∷ filed 269 270 r true 0 2 ∷ plain 270 272 rw ∷ plain 34359705590 34359705593 rw ∷ filed 34359705593 34359705597 r true 0 3 ∷ filed 34359705597 34359705599 r true 16384 1 ∷ []))
    ∷ kernel_step 0 (Protect 1101824 4096 rw) (Ok (Returned 0)) (Some (plain 260 263 rw ∷ plain 268 269 rw ∷ filed 269 270 rw true 0 2 ∷ plain 270 272 rw ∷ plain 34359705590 34359705593 rw ∷ filed 34359705593 34359705597 r true 0 3 ∷ filed 34359705597 34359705599 r true 16384 1 ∷ []))
    ∷ kernel_step 0 (Map 1069056 16384 r 50 (negsuc 0) 0) (Ok (Returned 1069056)) (Some (plain 260 261 rw ∷ plain 261 265 r ∷ plain 268 269 rw ∷ filed 269 270 rw true 0 2 ∷ plain 270 272 rw ∷ plain 34359705590 34359705593 rw ∷ filed 34359705593 34359705597 r true 0 3 ∷ filed 34359705597 34359705599 r true 16384 1 ∷ []))
    ∷ kernel_step 0 (Touch 270 Write) (Ok (Serves 270 272 rw false 0)) None
    ∷ kernel_step 0 (Remap 1114112 16384 20480 3 1114112) (Err 22) (Some (plain 260 261 rw ∷ plain 261 265 r ∷ plain 268 269 rw ∷ filed 269 270 rw true 0 2 ∷ plain 270 272 rw ∷ plain 34359705590 34359705593 rw ∷ filed 34359705593 34359705597 r true 0 3 ∷ filed 34359705597 34359705599 r true 16384 1 ∷ []))
    ∷ kernel_step 0 (Map 1060864 8192 rw 16434 (negsuc 0) 0) (Ok (Returned 1060864)) (Some (plain 259 261 rw ∷ plain 261 265 r ∷ plain 268 269 rw ∷ filed 269 270 rw true 0 2 ∷ plain 270 272 rw ∷ plain 34359705590 34359705593 rw ∷ filed 34359705593 34359705597 r true 0 3 ∷ filed 34359705597 34359705599 r true 16384 1 ∷ []))
    ∷ kernel_step 0 (Protect 1110016 4096 r) (Ok (Returned 0)) (Some (plain 259 261 rw ∷ plain 261 265 r ∷ plain 268 269 rw ∷ filed 269 270 rw true 0 2 ∷ plain 270 271 rw ∷ plain 271 272 r ∷ plain 34359705590 34359705593 rw ∷ filed 34359705593 34359705597 r true 0 3 ∷ filed 34359705597 34359705599 r true 16384 1 ∷ []))
    ∷ kernel_step 0 (Map 1093632 16384 r 50 (negsuc 0) 0) (Ok (Returned 1093632)) (Some (plain 259 261 rw ∷ plain 261 265 r ∷ plain 267 271 r ∷ plain 271 272 r ∷ plain 34359705590 34359705593 rw ∷ filed 34359705593 34359705597 r true 0 3 ∷ filed 34359705597 34359705599 r true 16384 1 ∷ []))
    ∷ []

-- sealed_10: the kernel
abbrev pub sealed_10_on : Kernel
sealed_10_on = record { rules = linux_6_17; machine = record { lowest_built = 16; memory = 245000; stack = 8388608; has_keys = true; huge_always = true; files_are_huge = false; vsyscall = Xonly }; config = config 4096 140737354133504 65530 1064960 (file_row 3 false true 20000 ∷ file_row 4 true true 20000 ∷ []) }

-- sealed_10: its answers
abbrev pub sealed_10 : List Step
sealed_10 =
    kernel_step 0 (Map 1085440 12288 r 19 (pos 3) 12288) (Err 13) (Some ([]))
    ∷ kernel_step 0 (Map 1073152 8192 rw 131106 (negsuc 0) 0) (Ok (Returned 1073152)) (Some (plain 262 264 rw ∷ []))
    ∷ kernel_step 0 (Protect 1073152 8192 r) (Ok (Returned 0)) (Some (plain 262 264 r ∷ []))
    ∷ kernel_step 0 (Remap 1085440 12288 16384 3 1085440) (Err 22) (Some (plain 262 264 r ∷ []))
    ∷ kernel_step 0 (Seal 1073152 8192 0) (Ok (Returned 0)) (Some (plain 262 264 r ∷ []))
    ∷ kernel_step 0 (Map 1060864 12288 r 49 (negsuc 0) 0) (Ok (Returned 1060864)) (Some (filed 259 262 r true 0 3 ∷ plain 262 264 r ∷ []))
    ∷ kernel_step 0 (Seal 1073152 8192 0) (Ok (Returned 0)) (Some (filed 259 262 r true 0 3 ∷ plain 262 264 r ∷ []))
    ∷ kernel_step 0 (Protect 1077248 8192 rw) (Err 1) (Some (filed 259 262 r true 0 3 ∷ plain 262 264 r ∷ []))
    ∷ kernel_step 0 (Map 1089536 12288 rw 34 (negsuc 0) 0) (Ok (Returned 1089536)) (Some (filed 259 262 r true 0 3 ∷ plain 262 264 r ∷ plain 266 269 rw ∷ []))
    ∷ kernel_step 0 (Seal 1073152 8192 0) (Ok (Returned 0)) (Some (filed 259 262 r true 0 3 ∷ plain 262 264 r ∷ plain 266 269 rw ∷ []))
    ∷ kernel_step 0 (Break 1064960) (Ok (Returned 1064960)) (Some (filed 259 262 r true 0 3 ∷ plain 262 264 r ∷ plain 266 269 rw ∷ []))
    ∷ kernel_step 0 (Remap 1073152 8192 4096 1 0) (Err 1) (Some (filed 259 262 r true 0 3 ∷ plain 262 264 r ∷ plain 266 269 rw ∷ []))
    ∷ kernel_step 0 (Touch 262 Write) (Ok (Signal AccErr)) None
    ∷ kernel_step 0 (Seal 1060864 8192 0) (Ok (Returned 0)) (Some (filed 259 261 r true 0 3 ∷ filed 261 262 r true 8192 3 ∷ plain 262 264 r ∷ plain 266 269 rw ∷ []))
    ∷ kernel_step 0 (Map 0 16384 r 33 (negsuc 0) 0) (Ok (Returned 140737354117120)) (Some (filed 259 261 r true 0 3 ∷ filed 261 262 r true 8192 3 ∷ plain 262 264 r ∷ plain 266 269 rw ∷ filed 34359705595 34359705599 r true 0 4 ∷ []))
    ∷ kernel_step 0 (Protect 1073152 8192 rw) (Err 1) (Some (filed 259 261 r true 0 3 ∷ filed 261 262 r true 8192 3 ∷ plain 262 264 r ∷ plain 266 269 rw ∷ filed 34359705595 34359705599 r true 0 4 ∷ []))
    ∷ kernel_step 0 (Seal 1069056 4096 0) (Ok (Returned 0)) (Some (filed 259 262 r true 0 3 ∷ plain 262 264 r ∷ plain 266 269 rw ∷ filed 34359705595 34359705599 r true 0 4 ∷ []))
    ∷ kernel_step 0 (Map 1044480 16384 rw 32785 (pos 3) 8192) (Err 13) (Some (filed 259 262 r true 0 3 ∷ plain 262 264 r ∷ plain 266 269 rw ∷ filed 34359705595 34359705599 r true 0 4 ∷ []))
    ∷ kernel_step 0 (Seal 1073152 8192 0) (Ok (Returned 0)) (Some (filed 259 262 r true 0 3 ∷ plain 262 264 r ∷ plain 266 269 rw ∷ filed 34359705595 34359705599 r true 0 4 ∷ []))
    ∷ kernel_step 0 (Seal 1073152 8192 0) (Ok (Returned 0)) (Some (filed 259 262 r true 0 3 ∷ plain 262 264 r ∷ plain 266 269 rw ∷ filed 34359705595 34359705599 r true 0 4 ∷ []))
    ∷ kernel_step 0 (Map 1085440 16384 r 50 (negsuc 0) 0) (Ok (Returned 1085440)) (Some (filed 259 262 r true 0 3 ∷ plain 262 264 r ∷ plain 265 269 r ∷ filed 34359705595 34359705599 r true 0 4 ∷ []))
    ∷ kernel_step 0 (Seal 1073152 8192 0) (Ok (Returned 0)) (Some (filed 259 262 r true 0 3 ∷ plain 262 264 r ∷ plain 265 269 r ∷ filed 34359705595 34359705599 r true 0 4 ∷ []))
    ∷ kernel_step 0 (Seal 1060864 12288 0) (Ok (Returned 0)) (Some (filed 259 262 r true 0 3 ∷ plain 262 264 r ∷ plain 265 269 r ∷ filed 34359705595 34359705599 r true 0 4 ∷ []))
    ∷ kernel_step 0 (Map 1077248 12288 r 50 (negsuc 0) 0) (Err 1) (Some (filed 259 262 r true 0 3 ∷ plain 262 264 r ∷ plain 265 269 r ∷ filed 34359705595 34359705599 r true 0 4 ∷ []))
    ∷ kernel_step 0 (Protect 1060864 4096 rw) (Err 1) (Some (filed 259 262 r true 0 3 ∷ plain 262 264 r ∷ plain 265 269 r ∷ filed 34359705595 34359705599 r true 0 4 ∷ []))
    ∷ kernel_step 0 (Seal 1060864 12288 0) (Ok (Returned 0)) (Some (filed 259 262 r true 0 3 ∷ plain 262 264 r ∷ plain 265 269 r ∷ filed 34359705595 34359705599 r true 0 4 ∷ []))
    ∷ kernel_step 0 (Seal 1089536 12288 0) (Ok (Returned 0)) (Some (filed 259 262 r true 0 3 ∷ plain 262 264 r ∷ plain 265 266 r ∷ plain 266 269 r ∷ filed 34359705595 34359705599 r true 0 4 ∷ []))
    ∷ kernel_step 0 (Protect 1073152 8192 rw) (Err 1) (Some (filed 259 262 r true 0 3 ∷ plain 262 264 r ∷ plain 265 266 r ∷ plain 266 269 r ∷ filed 34359705595 34359705599 r true 0 4 ∷ []))
    ∷ kernel_step 0 (Break 1052664) (Ok (Returned 1064960)) (Some (filed 259 262 r true 0 3 ∷ plain 262 264 r ∷ plain 265 266 r ∷ plain 266 269 r ∷ filed 34359705595 34359705599 r true 0 4 ∷ []))
    ∷ kernel_step 0 (Seal 1060864 12288 0) (Ok (Returned 0)) (Some (filed 259 262 r true 0 3 ∷ plain 262 264 r ∷ plain 265 266 r ∷ plain 266 269 r ∷ filed 34359705595 34359705599 r true 0 4 ∷ []))
    ∷ []

-- written_28: the kernel
abbrev pub written_28_on : Kernel
written_28_on = record { rules = linux_6_17; machine = record { lowest_built = 16; memory = 245000; stack = 8388608; has_keys = true; huge_always = true; files_are_huge = false; vsyscall = Xonly }; config = config 4096 140737354133504 65530 0 ([]) }

-- written_28: its answers
abbrev pub written_28 : List Step
written_28 =
    kernel_step 0 (Map 1056768 12288 rw 50 (negsuc 0) 0) (Ok (Returned 1056768)) (Some (plain 258 261 rw ∷ []))
    ∷ kernel_step 0 (Map 1048576 8192 rw 50 (negsuc 0) 0) (Ok (Returned 1048576)) (Some (plain 256 261 rw ∷ []))
    ∷ kernel_step 0 (Touch 260 Write) (Ok (Serves 256 261 rw false 0)) None
    ∷ kernel_step 0 (Protect 1048576 20480 rw) (Ok (Returned 0)) (Some (plain 256 261 rw ∷ []))
    ∷ kernel_step 0 (Map 1060864 8192 rw 50 (negsuc 0) 0) (Ok (Returned 1060864)) (Some (plain 256 261 rw ∷ []))
    ∷ kernel_step 0 (Remap 1064960 12288 12288 3 1572864) (Ok (Returned 1572864)) (Some (plain 256 260 rw ∷ plain 384 385 rw ∷ []))
    ∷ kernel_step 0 (Touch 256 Read) (Ok (Serves 256 260 rw false 0)) None
    ∷ kernel_step 0 (Remap 1572864 12288 12288 3 1064960) (Ok (Returned 1064960)) (Some (plain 256 261 rw ∷ []))
    ∷ kernel_step 0 (Touch 257 Exec) (Ok (Signal AccErr)) None
    ∷ kernel_step 0 (Remap 1060864 12288 12288 3 1576960) (Ok (Returned 1576960)) (Some (plain 256 259 rw ∷ plain 385 387 rw ∷ []))
    ∷ kernel_step 0 (Remap 1048576 8192 8192 3 1572864) (Ok (Returned 1572864)) (Some (plain 258 259 rw ∷ plain 384 386 rw ∷ plain 386 387 rw ∷ []))
    ∷ kernel_step 0 (Touch 258 Write) (Ok (Serves 258 259 rw false 0)) None
    ∷ kernel_step 0 (Protect 1056768 8192 rw) (Err 12) (Some (plain 258 259 rw ∷ plain 384 386 rw ∷ plain 386 387 rw ∷ []))
    ∷ kernel_step 0 (Map 1060864 4096 rw 50 (negsuc 0) 0) (Ok (Returned 1060864)) (Some (plain 258 260 rw ∷ plain 384 386 rw ∷ plain 386 387 rw ∷ []))
    ∷ kernel_step 0 (Map 1064960 4096 rw 50 (negsuc 0) 0) (Ok (Returned 1064960)) (Some (plain 258 261 rw ∷ plain 384 386 rw ∷ plain 386 387 rw ∷ []))
    ∷ kernel_step 0 (Touch 259 Exec) (Ok (Signal AccErr)) None
    ∷ kernel_step 0 (Remap 1572864 8192 8192 3 1048576) (Ok (Returned 1048576)) (Some (plain 256 261 rw ∷ plain 386 387 rw ∷ []))
    ∷ kernel_step 0 (Touch 386 Write) (Ok (Serves 386 387 rw false 0)) None
    ∷ kernel_step 0 (Touch 260 Write) (Ok (Serves 256 261 rw false 0)) None
    ∷ kernel_step 0 (Fork 1) (Ok (Returned 0)) None
    ∷ kernel_step 1 (Touch 386 Write) (Ok (Serves 386 387 rw false 0)) None
    ∷ kernel_step 0 (Protect 1060864 4096 rw) (Ok (Returned 0)) (Some (plain 256 261 rw ∷ plain 386 387 rw ∷ []))
    ∷ kernel_step 0 (Map 1052672 16384 rw 50 (negsuc 0) 0) (Ok (Returned 1052672)) (Some (plain 256 261 rw ∷ plain 386 387 rw ∷ []))
    ∷ kernel_step 1 (Touch 258 Write) (Ok (Serves 256 261 rw false 0)) None
    ∷ kernel_step 0 (Remap 1048576 20480 20480 3 1576960) (Ok (Returned 1576960)) (Some (plain 385 390 rw ∷ []))
    ∷ kernel_step 0 (Remap 1060864 16384 20480 0 0) (Err 14) (Some (plain 385 390 rw ∷ []))
    ∷ kernel_step 1 (Touch 386 Write) (Ok (Serves 386 387 rw false 0)) None
    ∷ kernel_step 0 (Remap 1585152 4096 4096 3 1069056) (Ok (Returned 1069056)) (Some (plain 261 262 rw ∷ plain 385 387 rw ∷ plain 388 390 rw ∷ []))
    ∷ kernel_step 0 (Map 1052672 12288 rw 50 (negsuc 0) 0) (Ok (Returned 1052672)) (Some (plain 257 260 rw ∷ plain 261 262 rw ∷ plain 385 387 rw ∷ plain 388 390 rw ∷ []))
    ∷ kernel_step 1 (Protect 1056768 8192 rw) (Ok (Returned 0)) (Some (plain 256 261 rw ∷ plain 386 387 rw ∷ []))
    ∷ []

-- sealed_34: the kernel
abbrev pub sealed_34_on : Kernel
sealed_34_on = record { rules = linux_6_17; machine = record { lowest_built = 16; memory = 245000; stack = 8388608; has_keys = true; huge_always = true; files_are_huge = false; vsyscall = Xonly }; config = config 4096 140737354133504 65530 0 (file_row 3 false true 20000 ∷ file_row 4 false true 90000 ∷ file_row 5 true true 0 ∷ []) }

-- sealed_34: its answers
abbrev pub sealed_34 : List Step
sealed_34 =
    kernel_step 0 (Map 0 16384 none 34 (negsuc 0) 0) (Ok (Returned 140737354117120)) (Some (plain 34359705595 34359705599 none ∷ []))
    ∷ kernel_step 0 (Map 1122304 8192 rx 17 (pos 3) 4096) (Err 13) (Some (plain 34359705595 34359705599 none ∷ []))
    ∷ kernel_step 0 (Remap 140737354117120 4096 8192 3 1126400) (Ok (Returned 1126400)) (Some (plain 275 277 none ∷ plain 34359705596 34359705599 none ∷ []))
    ∷ kernel_step 0 (Unmap 1126400 8192) (Ok (Returned 0)) (Some (plain 34359705596 34359705599 none ∷ []))
    ∷ kernel_step 0 (Map 140737354133504 4096 x 50 (negsuc 0) 0) (Ok (Returned 140737354133504)) (Some (plain 34359705596 34359705599 none ∷ plain 34359705599 34359705600 x ∷ []))
    ∷ kernel_step 0 (Remap 140737354133504 4096 4096 3 1060864) (Ok (Returned 1060864)) (Some (plain 259 260 x ∷ plain 34359705596 34359705599 none ∷ []))
    ∷ kernel_step 0 (Protect 1060864 4096 none) (Ok (Returned 0)) (Some (plain 259 260 none ∷ plain 34359705596 34359705599 none ∷ []))
    ∷ kernel_step 0 (Touch 259 Write) (Ok (Signal AccErr)) None
    ∷ kernel_step 0 (Map 1069056 2097152 r 2 (pos 5) 12288) (Ok (Returned 1069056)) (Some (plain 259 260 none ∷ filed 261 773 r false 12288 3 ∷ plain 34359705596 34359705599 none ∷ []))
    ∷ kernel_step 0 (Remap 1060864 4096 4096 3 1077248) (Ok (Returned 1077248)) (Some (filed 261 263 r false 12288 3 ∷ plain 263 264 none ∷ filed 264 773 r false 24576 3 ∷ plain 34359705596 34359705599 none ∷ []))
    ∷ kernel_step 0 (Touch 737 Exec) (Ok (Signal BusErr)) None
    ∷ kernel_step 0 (Seal 1077248 4096 0) (Ok (Returned 0)) (Some (filed 261 263 r false 12288 3 ∷ plain 263 264 none ∷ filed 264 773 r false 24576 3 ∷ plain 34359705596 34359705599 none ∷ []))
    ∷ kernel_step 0 (Remap 1077248 4096 4096 3 1126400) (Err 1) (Some (filed 261 263 r false 12288 3 ∷ plain 263 264 none ∷ filed 264 773 r false 24576 3 ∷ plain 34359705596 34359705599 none ∷ []))
    ∷ kernel_step 0 (Map 0 34359738368 w 33 (negsuc 0) 0) (Err 12) (Some (filed 261 263 r false 12288 3 ∷ plain 263 264 none ∷ filed 264 773 r false 24576 3 ∷ plain 34359705596 34359705599 none ∷ []))
    ∷ kernel_step 0 (Seal 1056768 4096 0) (Err 12) (Some (filed 261 263 r false 12288 3 ∷ plain 263 264 none ∷ filed 264 773 r false 24576 3 ∷ plain 34359705596 34359705599 none ∷ []))
    ∷ kernel_step 0 (Seal 1048576 16384 0) (Err 12) (Some (filed 261 263 r false 12288 3 ∷ plain 263 264 none ∷ filed 264 773 r false 24576 3 ∷ plain 34359705596 34359705599 none ∷ []))
    ∷ kernel_step 0 (Protect 1097728 2068480 rw) (Ok (Returned 0)) (Some (filed 261 263 r false 12288 3 ∷ plain 263 264 none ∷ filed 264 268 r false 24576 3 ∷ filed 268 773 rw false 40960 3 ∷ plain 34359705596 34359705599 none ∷ []))
    ∷ kernel_step 0 (Unmap 1081344 32768) (Ok (Returned 0)) (Some (filed 261 263 r false 12288 3 ∷ plain 263 264 none ∷ filed 272 773 rw false 57344 3 ∷ plain 34359705596 34359705599 none ∷ []))
    ∷ kernel_step 0 (Seal 1118208 2048000 0) (Ok (Returned 0)) (Some (filed 261 263 r false 12288 3 ∷ plain 263 264 none ∷ filed 272 273 rw false 57344 3 ∷ filed 273 773 rw false 61440 3 ∷ plain 34359705596 34359705599 none ∷ []))
    ∷ kernel_step 0 (Map 1064960 12288 none 274 (pos 5) 0) (Err 22) (Some (filed 261 263 r false 12288 3 ∷ plain 263 264 none ∷ filed 272 273 rw false 57344 3 ∷ filed 273 773 rw false 61440 3 ∷ plain 34359705596 34359705599 none ∷ []))
    ∷ kernel_step 0 (Map 1118208 16384 rwx 18 (pos 4) 12288) (Err 13) (Some (filed 261 263 r false 12288 3 ∷ plain 263 264 none ∷ filed 272 273 rw false 57344 3 ∷ filed 273 773 rw false 61440 3 ∷ plain 34359705596 34359705599 none ∷ []))
    ∷ kernel_step 0 (Seal 1118208 32768 0) (Ok (Returned 0)) (Some (filed 261 263 r false 12288 3 ∷ plain 263 264 none ∷ filed 272 273 rw false 57344 3 ∷ filed 273 773 rw false 61440 3 ∷ plain 34359705596 34359705599 none ∷ []))
    ∷ kernel_step 0 (Seal 1114112 4096 0) (Ok (Returned 0)) (Some (filed 261 263 r false 12288 3 ∷ plain 263 264 none ∷ filed 272 773 rw false 57344 3 ∷ plain 34359705596 34359705599 none ∷ []))
    ∷ kernel_step 0 (Remap 1114112 2052096 2052096 5 0) (Err 22) (Some (filed 261 263 r false 12288 3 ∷ plain 263 264 none ∷ filed 272 773 rw false 57344 3 ∷ plain 34359705596 34359705599 none ∷ []))
    ∷ kernel_step 0 (Map 0 2097152 w 34 (negsuc 0) 0) (Ok (Returned 140737349943296)) (Some (filed 261 263 r false 12288 3 ∷ plain 263 264 none ∷ filed 272 773 rw false 57344 3 ∷ plain 34359704576 34359705088 w ∷ plain 34359705596 34359705599 none ∷ []))
    ∷ kernel_step 0 (Map 0 2101248 rw 131074 (pos 3) 0) (Err 13) (Some (filed 261 263 r false 12288 3 ∷ plain 263 264 none ∷ filed 272 773 rw false 57344 3 ∷ plain 34359704576 34359705088 w ∷ plain 34359705596 34359705599 none ∷ []))
    ∷ kernel_step 0 (Seal 1069056 8192 0) (Ok (Returned 0)) (Some (filed 261 263 r false 12288 3 ∷ plain 263 264 none ∷ filed 272 773 rw false 57344 3 ∷ plain 34359704576 34359705088 w ∷ plain 34359705596 34359705599 none ∷ []))
    ∷ kernel_step 0 (Seal 1114112 2052096 0) (Ok (Returned 0)) (Some (filed 261 263 r false 12288 3 ∷ plain 263 264 none ∷ filed 272 773 rw false 57344 3 ∷ plain 34359704576 34359705088 w ∷ plain 34359705596 34359705599 none ∷ []))
    ∷ kernel_step 0 (Map 1122304 4096 x 34 (negsuc 0) 0) (Ok (Returned 140737354117120)) (Some (filed 261 263 r false 12288 3 ∷ plain 263 264 none ∷ filed 272 773 rw false 57344 3 ∷ plain 34359704576 34359705088 w ∷ plain 34359705595 34359705596 x ∷ plain 34359705596 34359705599 none ∷ []))
    ∷ kernel_step 0 (Touch 263 Read) (Ok (Signal AccErr)) (Some (filed 261 263 r false 12288 3 ∷ plain 263 264 none ∷ filed 272 773 rw false 57344 3 ∷ plain 34359704576 34359705088 w ∷ plain 34359705595 34359705596 x ∷ plain 34359705596 34359705599 none ∷ []))
    ∷ []

-- hard_40: the kernel
abbrev pub hard_40_on : Kernel
hard_40_on = record { rules = linux_6_17; machine = record { lowest_built = 16; memory = 245000; stack = 8388608; has_keys = true; huge_always = true; files_are_huge = false; vsyscall = Xonly }; config = config 4096 140737354133504 65530 0 ([]) }

-- hard_40: its answers
abbrev pub hard_40 : List Step
hard_40 =
    kernel_step 0 (Map 1077248 4096 r 50 (negsuc 0) 0) (Ok (Returned 1077248)) (Some (plain 263 264 r ∷ []))
    ∷ kernel_step 0 (Map 1077248 8192 rw 50 (negsuc 0) 0) (Ok (Returned 1077248)) (Some (plain 263 265 rw ∷ []))
    ∷ kernel_step 0 (Map 0 4096 rw 34 (negsuc 0) 0) (Ok (Returned 140737354129408)) (Some (plain 263 265 rw ∷ plain 34359705598 34359705599 rw ∷ []))
    ∷ kernel_step 0 (Remap 1081344 4096 4096 7 1073152) (Ok (Returned 1073152)) (Some (plain 262 265 rw ∷ plain 34359705598 34359705599 rw ∷ []))
    ∷ kernel_step 0 (Protect 1073152 4096 rw) (Ok (Returned 0)) (Some (plain 262 265 rw ∷ plain 34359705598 34359705599 rw ∷ []))
    ∷ kernel_step 0 (Map 1081344 4096 rw 1048610 (negsuc 0) 0) (Err 17) (Some (plain 262 265 rw ∷ plain 34359705598 34359705599 rw ∷ []))
    ∷ kernel_step 0 (Touch 262 Exec) (Ok (Signal AccErr)) None
    ∷ kernel_step 0 (Touch 263 Read) (Ok (Serves 262 265 rw false 0)) None
    ∷ kernel_step 0 (Remap 1077248 8192 8192 5 0) (Ok (Returned 140737354121216)) (Some (plain 262 265 rw ∷ plain 34359705596 34359705599 rw ∷ []))
    ∷ kernel_step 0 (Remap 1077248 20480 2097152 1 0) (Err 14) (Some (plain 262 265 rw ∷ plain 34359705596 34359705599 rw ∷ []))
    ∷ kernel_step 0 (Map 1118208 16384 rw 34 (negsuc 0) 0) (Ok (Returned 1118208)) (Some (plain 262 265 rw ∷ plain 273 277 rw ∷ plain 34359705596 34359705599 rw ∷ []))
    ∷ kernel_step 0 (Map 1077248 8192 rw 50 (negsuc 0) 0) (Ok (Returned 1077248)) (Some (plain 262 265 rw ∷ plain 273 277 rw ∷ plain 34359705596 34359705599 rw ∷ []))
    ∷ kernel_step 0 (Protect 1093632 16384 r) (Err 12) (Some (plain 262 265 rw ∷ plain 273 277 rw ∷ plain 34359705596 34359705599 rw ∷ []))
    ∷ kernel_step 0 (Protect 1073152 20480 r) (Err 12) (Some (plain 262 265 r ∷ plain 273 277 rw ∷ plain 34359705596 34359705599 rw ∷ []))
    ∷ kernel_step 0 (Protect 1118208 12288 r) (Ok (Returned 0)) (Some (plain 262 265 r ∷ plain 273 276 r ∷ plain 276 277 rw ∷ plain 34359705596 34359705599 rw ∷ []))
    ∷ kernel_step 0 (Map 0 4194304 rw 34 (negsuc 0) 0) (Ok (Returned 140737347846144)) (Some (plain 262 265 r ∷ plain 273 276 r ∷ plain 276 277 rw ∷ plain 34359704064 34359705088 rw ∷ plain 34359705596 34359705599 rw ∷ []))
    ∷ kernel_step 0 (Map 0 3145728 rw 34 (negsuc 0) 0) (Ok (Returned 140737344700416)) (Some (plain 262 265 r ∷ plain 273 276 r ∷ plain 276 277 rw ∷ plain 34359703296 34359705088 rw ∷ plain 34359705596 34359705599 rw ∷ []))
    ∷ kernel_step 0 (Protect 1073152 12288 rw) (Ok (Returned 0)) (Some (plain 262 265 rw ∷ plain 273 276 r ∷ plain 276 277 rw ∷ plain 34359703296 34359705088 rw ∷ plain 34359705596 34359705599 rw ∷ []))
    ∷ kernel_step 0 (Remap 1118208 0 12288 1 0) (Err 22) (Some (plain 262 265 rw ∷ plain 273 276 r ∷ plain 276 277 rw ∷ plain 34359703296 34359705088 rw ∷ plain 34359705596 34359705599 rw ∷ []))
    ∷ kernel_step 0 (Touch 273 Exec) (Ok (Signal AccErr)) None
    ∷ kernel_step 0 (Map 1118208 4096 rw 306 (negsuc 0) 0) (Ok (Returned 1118208)) (Some (plain 262 265 rw ∷ plain 273 274 rw ∷ plain 274 276 r ∷ plain 276 277 rw ∷ plain 34359703296 34359705088 rw ∷ plain 34359705596 34359705599 rw ∷ []))
    ∷ kernel_step 0 (Touch 262 Read) (Ok (Serves 262 265 rw false 0)) None
    ∷ kernel_step 0 (Map 1048576 4096 r 1048610 (negsuc 0) 0) (Ok (Returned 1048576)) (Some (plain 256 257 r ∷ plain 262 265 rw ∷ plain 273 274 rw ∷ plain 274 276 r ∷ plain 276 277 rw ∷ plain 34359703296 34359705088 rw ∷ plain 34359705596 34359705599 rw ∷ []))
    ∷ kernel_step 0 (Remap 1073152 12288 24576 1 0) (Ok (Returned 1073152)) (Some (plain 256 257 r ∷ plain 262 268 rw ∷ plain 273 274 rw ∷ plain 274 276 r ∷ plain 276 277 rw ∷ plain 34359703296 34359705088 rw ∷ plain 34359705596 34359705599 rw ∷ []))
    ∷ kernel_step 0 (Remap 1130496 0 4096 1 0) (Err 22) (Some (plain 256 257 r ∷ plain 262 268 rw ∷ plain 273 274 rw ∷ plain 274 276 r ∷ plain 276 277 rw ∷ plain 34359703296 34359705088 rw ∷ plain 34359705596 34359705599 rw ∷ []))
    ∷ kernel_step 0 (Remap 1130496 0 4096 3 1064960) (Err 22) (Some (plain 256 257 r ∷ plain 262 268 rw ∷ plain 273 274 rw ∷ plain 274 276 r ∷ plain 276 277 rw ∷ plain 34359703296 34359705088 rw ∷ plain 34359705596 34359705599 rw ∷ []))
    ∷ kernel_step 0 (Unmap 1077248 4096) (Ok (Returned 0)) (Some (plain 256 257 r ∷ plain 262 263 rw ∷ plain 264 268 rw ∷ plain 273 274 rw ∷ plain 274 276 r ∷ plain 276 277 rw ∷ plain 34359703296 34359705088 rw ∷ plain 34359705596 34359705599 rw ∷ []))
    ∷ kernel_step 0 (Remap 1130496 0 4096 1 0) (Err 22) (Some (plain 256 257 r ∷ plain 262 263 rw ∷ plain 264 268 rw ∷ plain 273 274 rw ∷ plain 274 276 r ∷ plain 276 277 rw ∷ plain 34359703296 34359705088 rw ∷ plain 34359705596 34359705599 rw ∷ []))
    ∷ kernel_step 0 (Unmap 1048576 4096) (Ok (Returned 0)) (Some (plain 262 263 rw ∷ plain 264 268 rw ∷ plain 273 274 rw ∷ plain 274 276 r ∷ plain 276 277 rw ∷ plain 34359703296 34359705088 rw ∷ plain 34359705596 34359705599 rw ∷ []))
    ∷ kernel_step 0 (Map 0 3145728 rw 34 (negsuc 0) 0) (Ok (Returned 140737341554688)) (Some (plain 262 263 rw ∷ plain 264 268 rw ∷ plain 273 274 rw ∷ plain 274 276 r ∷ plain 276 277 rw ∷ plain 34359702528 34359705088 rw ∷ plain 34359705596 34359705599 rw ∷ []))
    ∷ []

-- written_57: the kernel
abbrev pub written_57_on : Kernel
written_57_on = record { rules = linux_6_17; machine = record { lowest_built = 16; memory = 245000; stack = 8388608; has_keys = true; huge_always = true; files_are_huge = false; vsyscall = Xonly }; config = config 4096 140737354133504 65530 0 (file_row 3 false true 20000 ∷ file_row 4 true true 0 ∷ []) }

-- written_57: its answers
abbrev pub written_57 : List Step
written_57 =
    kernel_step 0 (Map 1060864 8192 rw 18 (pos 3) 12288) (Err 13) (Some ([]))
    ∷ kernel_step 0 (Map 1048576 12288 rw 18 (pos 3) 0) (Err 13) (Some ([]))
    ∷ kernel_step 0 (Touch 263 Write) (Ok (Signal MapErr)) None
    ∷ kernel_step 0 (Protect 1069056 12288 rwx) (Err 12) (Some ([]))
    ∷ kernel_step 0 (Protect 1052672 12288 rw) (Err 12) (Some ([]))
    ∷ kernel_step 0 (Remap 1064960 12288 12288 3 1064960) (Err 22) (Some ([]))
    ∷ kernel_step 0 (Protect 1060864 12288 rw) (Err 12) (Some ([]))
    ∷ kernel_step 0 (Remap 1064960 12288 12288 3 1064960) (Err 22) (Some ([]))
    ∷ kernel_step 0 (Map 1073152 16384 rw 18 (pos 3) 24576) (Err 13) (Some ([]))
    ∷ kernel_step 0 (Protect 1056768 20480 rw) (Err 12) (Some ([]))
    ∷ kernel_step 0 (Protect 1060864 8192 rwx) (Err 12) (Some ([]))
    ∷ kernel_step 0 (Fork 1) (Ok (Returned 0)) None
    ∷ kernel_step 0 (Touch 263 Read) (Ok (Signal MapErr)) None
    ∷ kernel_step 0 (Unmap 1064960 16384) (Ok (Returned 0)) (Some ([]))
    ∷ kernel_step 0 (Remap 1073152 20480 20480 3 1048576) (Err 14) (Some ([]))
    ∷ kernel_step 0 (Touch 260 Write) (Ok (Signal MapErr)) None
    ∷ kernel_step 1 (Map 1052672 4096 rwx 50 (negsuc 0) 0) (Ok (Returned 1052672)) (Some (plain 257 258 rwx ∷ []))
    ∷ kernel_step 1 (Protect 1052672 12288 r) (Err 12) (Some (plain 257 258 r ∷ []))
    ∷ kernel_step 1 (Touch 257 Write) (Ok (Signal AccErr)) None
    ∷ kernel_step 0 (Map 1056768 8192 rw 50 (negsuc 0) 0) (Ok (Returned 1056768)) (Some (plain 258 260 rw ∷ []))
    ∷ kernel_step 0 (Touch 258 Write) (Ok (Serves 258 260 rw false 0)) None
    ∷ kernel_step 1 (Map 1069056 16384 rw 50 (negsuc 0) 0) (Ok (Returned 1069056)) (Some (plain 257 258 r ∷ plain 261 265 rw ∷ []))
    ∷ kernel_step 0 (Remap 1048576 16384 16384 3 1572864) (Err 14) (Some (plain 258 260 rw ∷ []))
    ∷ kernel_step 0 (Protect 1056768 4096 rw) (Ok (Returned 0)) (Some (plain 258 260 rw ∷ []))
    ∷ kernel_step 1 (Protect 1073152 4096 rw) (Ok (Returned 0)) (Some (plain 257 258 r ∷ plain 261 265 rw ∷ []))
    ∷ kernel_step 0 (Touch 259 Write) (Ok (Serves 258 260 rw false 0)) None
    ∷ kernel_step 0 (Touch 258 Read) (Ok (Serves 258 260 rw false 0)) None
    ∷ kernel_step 1 (Remap 1052672 12288 12288 7 1638400) (Ok (Returned 1638400)) (Some (plain 257 258 r ∷ plain 261 265 rw ∷ plain 400 401 r ∷ []))
    ∷ kernel_step 0 (Protect 1069056 12288 rw) (Err 12) (Some (plain 258 260 rw ∷ []))
    ∷ kernel_step 0 (Protect 1056768 8192 r) (Ok (Returned 0)) (Some (plain 258 260 r ∷ []))
    ∷ []

-- written_68: the kernel
abbrev pub written_68_on : Kernel
written_68_on = record { rules = linux_6_17; machine = record { lowest_built = 16; memory = 245000; stack = 8388608; has_keys = true; huge_always = true; files_are_huge = false; vsyscall = Xonly }; config = config 4096 140737354133504 65530 0 (file_row 3 true false 0 ∷ file_row 4 true true 20000 ∷ file_row 5 true false 90000 ∷ []) }

-- written_68: its answers
abbrev pub written_68 : List Step
written_68 =
    kernel_step 0 (Map 1052672 4096 rw 50 (negsuc 0) 0) (Ok (Returned 1052672)) (Some (plain 257 258 rw ∷ []))
    ∷ kernel_step 0 (Map 1056768 12288 r 306 (negsuc 0) 0) (Ok (Returned 1056768)) (Some (plain 257 258 rw ∷ plain 258 261 r ∷ []))
    ∷ kernel_step 0 (Touch 257 Read) (Ok (Serves 257 258 rw false 0)) None
    ∷ kernel_step 0 (Remap 1052672 4096 4096 7 536870912) (Ok (Returned 536870912)) (Some (plain 257 258 rw ∷ plain 258 261 r ∷ plain 131072 131073 rw ∷ []))
    ∷ kernel_step 0 (Remap 1052672 16384 16384 3 1576960) (Ok (Returned 1576960)) (Some (plain 385 386 rw ∷ plain 386 389 r ∷ plain 131072 131073 rw ∷ []))
    ∷ kernel_step 0 (Protect 1060864 16384 rw) (Err 12) (Some (plain 385 386 rw ∷ plain 386 389 r ∷ plain 131072 131073 rw ∷ []))
    ∷ kernel_step 0 (Touch 259 Read) (Ok (Signal MapErr)) None
    ∷ kernel_step 0 (Touch 1 Write) (Ok (Signal MapErr)) None
    ∷ kernel_step 0 (Remap 1056768 12288 12288 3 1064960) (Err 22) (Some (plain 385 386 rw ∷ plain 386 389 r ∷ plain 131072 131073 rw ∷ []))
    ∷ kernel_step 0 (Protect 1056768 4096 r) (Err 12) (Some (plain 385 386 rw ∷ plain 386 389 r ∷ plain 131072 131073 rw ∷ []))
    ∷ kernel_step 0 (Protect 1052672 4096 r) (Err 12) (Some (plain 385 386 rw ∷ plain 386 389 r ∷ plain 131072 131073 rw ∷ []))
    ∷ kernel_step 0 (Map 1048576 4096 r 306 (negsuc 0) 0) (Ok (Returned 1048576)) (Some (plain 256 257 r ∷ plain 385 386 rw ∷ plain 386 389 r ∷ plain 131072 131073 rw ∷ []))
    ∷ kernel_step 0 (Remap 536870912 4096 4096 3 1052672) (Ok (Returned 1052672)) (Some (plain 256 257 r ∷ plain 257 258 rw ∷ plain 385 386 rw ∷ plain 386 389 r ∷ []))
    ∷ kernel_step 0 (Remap 1048576 16384 16384 3 1048576) (Err 22) (Some (plain 256 257 r ∷ plain 257 258 rw ∷ plain 385 386 rw ∷ plain 386 389 r ∷ []))
    ∷ kernel_step 0 (Touch 1 Write) (Ok (Signal MapErr)) None
    ∷ kernel_step 0 (Remap 1576960 16384 16384 3 1052672) (Ok (Returned 1052672)) (Some (plain 256 257 r ∷ plain 257 258 rw ∷ plain 258 261 r ∷ []))
    ∷ kernel_step 0 (Touch 258 Write) (Ok (Signal AccErr)) None
    ∷ kernel_step 0 (Touch 1 Write) (Ok (Signal MapErr)) None
    ∷ kernel_step 0 (Protect 1060864 4096 rw) (Ok (Returned 0)) (Some (plain 256 257 r ∷ plain 257 258 rw ∷ plain 258 259 r ∷ plain 259 260 rw ∷ plain 260 261 r ∷ []))
    ∷ kernel_step 0 (Protect 1064960 16384 r) (Err 12) (Some (plain 256 257 r ∷ plain 257 258 rw ∷ plain 258 259 r ∷ plain 259 260 rw ∷ plain 260 261 r ∷ []))
    ∷ kernel_step 0 (Protect 1048576 12288 r) (Ok (Returned 0)) (Some (plain 256 257 r ∷ plain 257 258 r ∷ plain 258 259 r ∷ plain 259 260 rw ∷ plain 260 261 r ∷ []))
    ∷ kernel_step 0 (Remap 1060864 4096 4096 3 1048576) (Ok (Returned 1048576)) (Some (plain 256 257 rw ∷ plain 257 258 r ∷ plain 258 259 r ∷ plain 260 261 r ∷ []))
    ∷ kernel_step 0 (Remap 1069056 8192 8192 3 1060864) (Err 14) (Some (plain 256 257 rw ∷ plain 257 258 r ∷ plain 258 259 r ∷ plain 260 261 r ∷ []))
    ∷ kernel_step 0 (Unmap 1064960 4096) (Ok (Returned 0)) (Some (plain 256 257 rw ∷ plain 257 258 r ∷ plain 258 259 r ∷ []))
    ∷ kernel_step 0 (Fork 1) (Ok (Returned 0)) None
    ∷ kernel_step 0 (Protect 1048576 4096 rw) (Ok (Returned 0)) (Some (plain 256 257 rw ∷ plain 257 258 r ∷ plain 258 259 r ∷ []))
    ∷ kernel_step 0 (Map 1060864 16384 rw 306 (negsuc 0) 0) (Ok (Returned 1060864)) (Some (plain 256 257 rw ∷ plain 257 258 r ∷ plain 258 259 r ∷ plain 259 263 rw ∷ []))
    ∷ kernel_step 0 (Map 1052672 4096 rw 50 (negsuc 0) 0) (Ok (Returned 1052672)) (Some (plain 256 257 rw ∷ plain 257 258 rw ∷ plain 258 259 r ∷ plain 259 263 rw ∷ []))
    ∷ kernel_step 1 (Map 1060864 12288 r 50 (negsuc 0) 0) (Ok (Returned 1060864)) (Some (plain 256 257 rw ∷ plain 257 258 r ∷ plain 258 259 r ∷ plain 259 262 r ∷ []))
    ∷ kernel_step 1 (Remap 1048576 16384 16384 3 1048576) (Err 22) (Some (plain 256 257 rw ∷ plain 257 258 r ∷ plain 258 259 r ∷ plain 259 262 r ∷ []))
    ∷ []

-- written_78: the kernel
abbrev pub written_78_on : Kernel
written_78_on = record { rules = linux_6_17; machine = record { lowest_built = 16; memory = 245000; stack = 8388608; has_keys = true; huge_always = true; files_are_huge = false; vsyscall = Xonly }; config = config 4096 140737354133504 65530 0 ([]) }

-- written_78: its answers
abbrev pub written_78 : List Step
written_78 =
    kernel_step 0 (Map 1060864 4096 rwx 50 (negsuc 0) 0) (Ok (Returned 1060864)) (Some (plain 259 260 rwx ∷ []))
    ∷ kernel_step 0 (Map 1060864 12288 r 50 (negsuc 0) 0) (Ok (Returned 1060864)) (Some (plain 259 262 r ∷ []))
    ∷ kernel_step 0 (Touch 256 Write) (Ok (Signal MapErr)) None
    ∷ kernel_step 0 (Protect 1060864 12288 rw) (Ok (Returned 0)) (Some (plain 259 262 rw ∷ []))
    ∷ kernel_step 0 (Touch 261 Write) (Ok (Serves 259 262 rw false 0)) None
    ∷ kernel_step 0 (Remap 1060864 16384 16384 3 1056768) (Err 22) (Some (plain 259 262 rw ∷ []))
    ∷ kernel_step 0 (Remap 1056768 16384 16384 3 1060864) (Err 22) (Some (plain 259 262 rw ∷ []))
    ∷ kernel_step 0 (Remap 1064960 16384 16384 3 1605632) (Ok (Returned 1605632)) (Some (plain 259 260 rw ∷ plain 392 394 rw ∷ []))
    ∷ kernel_step 0 (Map 1052672 8192 r 50 (negsuc 0) 0) (Ok (Returned 1052672)) (Some (plain 257 259 r ∷ plain 259 260 rw ∷ plain 392 394 rw ∷ []))
    ∷ kernel_step 0 (Unmap 1064960 4096) (Ok (Returned 0)) (Some (plain 257 259 r ∷ plain 259 260 rw ∷ plain 392 394 rw ∷ []))
    ∷ kernel_step 0 (Map 1064960 8192 rw 50 (negsuc 0) 0) (Ok (Returned 1064960)) (Some (plain 257 259 r ∷ plain 259 262 rw ∷ plain 392 394 rw ∷ []))
    ∷ kernel_step 0 (Map 1064960 12288 rw 50 (negsuc 0) 0) (Ok (Returned 1064960)) (Some (plain 257 259 r ∷ plain 259 263 rw ∷ plain 392 394 rw ∷ []))
    ∷ kernel_step 0 (Touch 259 Write) (Ok (Serves 259 263 rw false 0)) None
    ∷ kernel_step 0 (Remap 1052672 20480 20480 3 1048576) (Err 22) (Some (plain 257 259 r ∷ plain 259 263 rw ∷ plain 392 394 rw ∷ []))
    ∷ kernel_step 0 (Map 1056768 12288 rwx 50 (negsuc 0) 0) (Ok (Returned 1056768)) (Some (plain 257 258 r ∷ plain 258 261 rwx ∷ plain 261 263 rw ∷ plain 392 394 rw ∷ []))
    ∷ kernel_step 0 (Fork 1) (Ok (Returned 0)) None
    ∷ kernel_step 1 (Touch 261 Write) (Ok (Serves 261 263 rw false 0)) None
    ∷ kernel_step 0 (Remap 1069056 4096 4096 3 1064960) (Ok (Returned 1064960)) (Some (plain 257 258 r ∷ plain 258 260 rwx ∷ plain 260 261 rw ∷ plain 262 263 rw ∷ plain 392 394 rw ∷ []))
    ∷ kernel_step 0 (Remap 1064960 4096 4096 7 1048576) (Ok (Returned 1048576)) (Some (plain 256 257 rw ∷ plain 257 258 r ∷ plain 258 260 rwx ∷ plain 260 261 rw ∷ plain 262 263 rw ∷ plain 392 394 rw ∷ []))
    ∷ kernel_step 1 (Map 1048576 8192 rw 50 (negsuc 0) 0) (Ok (Returned 1048576)) (Some (plain 256 258 rw ∷ plain 258 261 rwx ∷ plain 261 263 rw ∷ plain 392 394 rw ∷ []))
    ∷ kernel_step 0 (Touch 260 Read) (Ok (Serves 260 261 rw false 0)) None
    ∷ kernel_step 0 (Map 1060864 12288 r 50 (negsuc 0) 0) (Ok (Returned 1060864)) (Some (plain 256 257 rw ∷ plain 257 258 r ∷ plain 258 259 rwx ∷ plain 259 262 r ∷ plain 262 263 rw ∷ plain 392 394 rw ∷ []))
    ∷ kernel_step 0 (Touch 258 Write) (Ok (Serves 258 259 rwx false 0)) None
    ∷ kernel_step 0 (Touch 259 Write) (Ok (Signal AccErr)) None
    ∷ kernel_step 0 (Touch 262 Write) (Ok (Serves 262 263 rw false 0)) None
    ∷ kernel_step 0 (Touch 393 Write) (Ok (Serves 392 394 rw false 0)) None
    ∷ kernel_step 0 (Remap 1064960 4096 4096 3 1069056) (Ok (Returned 1069056)) (Some (plain 256 257 rw ∷ plain 257 258 r ∷ plain 258 259 rwx ∷ plain 259 260 r ∷ plain 261 262 r ∷ plain 262 263 rw ∷ plain 392 394 rw ∷ []))
    ∷ kernel_step 0 (Map 1056768 8192 rw 50 (negsuc 0) 0) (Ok (Returned 1056768)) (Some (plain 256 257 rw ∷ plain 257 258 r ∷ plain 258 260 rw ∷ plain 261 262 r ∷ plain 262 263 rw ∷ plain 392 394 rw ∷ []))
    ∷ kernel_step 0 (Protect 1060864 8192 r) (Err 12) (Some (plain 256 257 rw ∷ plain 257 258 r ∷ plain 258 259 rw ∷ plain 259 260 r ∷ plain 261 262 r ∷ plain 262 263 rw ∷ plain 392 394 rw ∷ []))
    ∷ kernel_step 0 (Remap 1048576 20480 20480 3 1052672) (Err 22) (Some (plain 256 257 rw ∷ plain 257 258 r ∷ plain 258 259 rw ∷ plain 259 260 r ∷ plain 261 262 r ∷ plain 262 263 rw ∷ plain 392 394 rw ∷ []))
    ∷ []

-- written_92: the kernel
abbrev pub written_92_on : Kernel
written_92_on = record { rules = linux_6_17; machine = record { lowest_built = 16; memory = 245000; stack = 8388608; has_keys = true; huge_always = true; files_are_huge = false; vsyscall = Xonly }; config = config 4096 140737354133504 65530 1073152 (file_row 3 true false 5000 ∷ file_row 4 false true 5000 ∷ file_row 5 true true 0 ∷ []) }

-- written_92: its answers
abbrev pub written_92 : List Step
written_92 =
    kernel_step 0 (Map 1089536 4096 r 50 (negsuc 0) 0) (Ok (Returned 1089536)) (Some (plain 266 267 r ∷ []))
    ∷ kernel_step 0 (Map 1089536 12288 rw 50 (negsuc 0) 0) (Ok (Returned 1089536)) (Some (plain 266 269 rw ∷ []))
    ∷ kernel_step 0 (Map 1085440 8192 r 50 (negsuc 0) 0) (Ok (Returned 1085440)) (Some (plain 265 267 r ∷ plain 267 269 rw ∷ []))
    ∷ kernel_step 0 (Protect 1093632 4096 rw) (Ok (Returned 0)) (Some (plain 265 267 r ∷ plain 267 269 rw ∷ []))
    ∷ kernel_step 0 (Touch 266 Read) (Ok (Serves 265 267 r false 0)) None
    ∷ kernel_step 0 (Map 1089536 8192 r 50 (negsuc 0) 0) (Ok (Returned 1089536)) (Some (plain 265 268 r ∷ plain 268 269 rw ∷ []))
    ∷ kernel_step 0 (Map 1073152 8192 rw 50 (negsuc 0) 0) (Ok (Returned 1073152)) (Some (plain 262 264 rw ∷ plain 265 268 r ∷ plain 268 269 rw ∷ []))
    ∷ kernel_step 0 (Map 1064960 8192 r 131122 (negsuc 0) 0) (Ok (Returned 1064960)) (Some (plain 260 262 r ∷ plain 262 264 rw ∷ plain 265 268 r ∷ plain 268 269 rw ∷ []))
    ∷ kernel_step 0 (Touch 263 Write) (Ok (Serves 262 264 rw false 0)) None
    ∷ kernel_step 0 (Remap 1060864 4096 4096 3 1638400) (Err 14) (Some (plain 260 262 r ∷ plain 262 264 rw ∷ plain 265 268 r ∷ plain 268 269 rw ∷ []))
    ∷ kernel_step 0 (Map 1060864 12288 r 32818 (negsuc 0) 0) (Ok (Returned 1060864)) (Some (plain 259 262 r ∷ plain 262 264 rw ∷ plain 265 268 r ∷ plain 268 269 rw ∷ []))
    ∷ kernel_step 0 (Protect 1085440 16384 r) (Ok (Returned 0)) (Some (plain 259 262 r ∷ plain 262 264 rw ∷ plain 265 269 r ∷ []))
    ∷ kernel_step 0 (Touch 267 Read) (Ok (Serves 265 269 r false 0)) None
    ∷ kernel_step 0 (Break 1077248) (Ok (Returned 1073152)) (Some (plain 259 262 r ∷ plain 262 264 rw ∷ plain 265 269 r ∷ []))
    ∷ kernel_step 0 (Break 1064960) (Ok (Returned 1073152)) (Some (plain 259 262 r ∷ plain 262 264 rw ∷ plain 265 269 r ∷ []))
    ∷ kernel_step 0 (Map 1077248 4096 rw 50 (negsuc 0) 0) (Ok (Returned 1077248)) (Some (plain 259 262 r ∷ plain 262 264 rw ∷ plain 265 269 r ∷ []))
    ∷ kernel_step 0 (Map 1077248 12288 r 131122 (negsuc 0) 0) (Ok (Returned 1077248)) (Some (plain 259 262 r ∷ plain 262 263 rw ∷ plain 263 266 r ∷ plain 266 269 r ∷ []))
    ∷ kernel_step 0 (Map 1073152 16384 r 50 (negsuc 0) 0) (Ok (Returned 1073152)) (Some (heap 259 269 r ∷ []))
    ∷ kernel_step 0 (Break 1069056) (Ok (Returned 1073152)) (Some (heap 259 269 r ∷ []))
    ∷ kernel_step 0 (Remap 1638400 4096 4096 3 1060864) (Err 14) (Some (heap 259 269 r ∷ []))
    ∷ kernel_step 0 (Break 1077248) (Ok (Returned 1073152)) (Some (heap 259 269 r ∷ []))
    ∷ kernel_step 0 (Protect 1048576 12288 rw) (Err 12) (Some (heap 259 269 r ∷ []))
    ∷ kernel_step 0 (Protect 1089536 12288 r) (Ok (Returned 0)) (Some (heap 259 269 r ∷ []))
    ∷ kernel_step 0 (Map 1069056 16384 rw 50 (negsuc 0) 0) (Ok (Returned 1069056)) (Some (plain 259 261 r ∷ heap 261 265 rw ∷ plain 265 269 r ∷ []))
    ∷ kernel_step 0 (Unmap 1069056 12288) (Ok (Returned 0)) (Some (plain 259 261 r ∷ plain 264 265 rw ∷ plain 265 269 r ∷ []))
    ∷ kernel_step 0 (Break 1069056) (Ok (Returned 1073152)) (Some (plain 259 261 r ∷ plain 264 265 rw ∷ plain 265 269 r ∷ []))
    ∷ kernel_step 0 (Remap 1077248 12288 12288 3 1572864) (Err 14) (Some (plain 259 261 r ∷ plain 264 265 rw ∷ plain 265 269 r ∷ []))
    ∷ kernel_step 0 (Remap 1073152 8192 8192 3 1069056) (Err 22) (Some (plain 259 261 r ∷ plain 264 265 rw ∷ plain 265 269 r ∷ []))
    ∷ kernel_step 0 (Touch 265 Write) (Ok (Signal AccErr)) None
    ∷ kernel_step 0 (Touch 264 Write) (Ok (Serves 264 265 rw false 0)) (Some (plain 259 261 r ∷ plain 264 265 rw ∷ plain 265 269 r ∷ []))
    ∷ []

-- hard_limit_109: the kernel
abbrev pub hard_limit_109_on : Kernel
hard_limit_109_on = record { rules = linux_6_17; machine = record { lowest_built = 16; memory = 245000; stack = 8388608; has_keys = true; huge_always = true; files_are_huge = false; vsyscall = Xonly }; config = config 4096 140737354133504 4 1073152 (file_row 3 true true 0 ∷ []) }

-- hard_limit_109: its answers
abbrev pub hard_limit_109 : List Step
hard_limit_109 =
    kernel_step 0 (Map 1081344 12288 rw 17 (pos 3) 8192) (Ok (Returned 1081344)) (Some (filed 264 267 rw true 8192 1 ∷ []))
    ∷ kernel_step 0 (Map 1093632 8192 rw 17 (pos 3) 20480) (Ok (Returned 1093632)) (Some (filed 264 269 rw true 8192 1 ∷ []))
    ∷ kernel_step 0 (Protect 1089536 4096 rw) (Ok (Returned 0)) (Some (filed 264 269 rw true 8192 1 ∷ []))
    ∷ kernel_step 0 (Touch 264 Write) (Ok (Signal BusErr)) None
    ∷ kernel_step 0 (Seal 1097728 4096 0) (Ok (Returned 0)) (Some (filed 264 268 rw true 8192 1 ∷ filed 268 269 rw true 24576 1 ∷ []))
    ∷ kernel_step 0 (Remap 1081344 16384 16384 3 1069056) (Err 22) (Some (filed 264 268 rw true 8192 1 ∷ filed 268 269 rw true 24576 1 ∷ []))
    ∷ kernel_step 0 (Protect 1097728 4096 rw) (Err 1) (Some (filed 264 268 rw true 8192 1 ∷ filed 268 269 rw true 24576 1 ∷ []))
    ∷ kernel_step 0 (Remap 1097728 4096 4096 7 1101824) (Err 12) (Some (filed 264 268 rw true 8192 1 ∷ filed 268 269 rw true 24576 1 ∷ []))
    ∷ kernel_step 0 (Map 1101824 4096 rw 17 (pos 3) 28672) (Ok (Returned 1101824)) (Some (filed 264 268 rw true 8192 1 ∷ filed 268 269 rw true 24576 1 ∷ filed 269 270 rw true 28672 1 ∷ []))
    ∷ kernel_step 0 (Unmap 1069056 8192) (Ok (Returned 0)) (Some (filed 264 268 rw true 8192 1 ∷ filed 268 269 rw true 24576 1 ∷ filed 269 270 rw true 28672 1 ∷ []))
    ∷ kernel_step 0 (Protect 1101824 4096 rw) (Ok (Returned 0)) (Some (filed 264 268 rw true 8192 1 ∷ filed 268 269 rw true 24576 1 ∷ filed 269 270 rw true 28672 1 ∷ []))
    ∷ kernel_step 0 (Touch 263 Write) (Ok (Signal MapErr)) None
    ∷ kernel_step 0 (Touch 268 Write) (Ok (Signal BusErr)) None
    ∷ kernel_step 0 (Break 1064968) (Ok (Returned 1073152)) (Some (filed 264 268 rw true 8192 1 ∷ filed 268 269 rw true 24576 1 ∷ filed 269 270 rw true 28672 1 ∷ []))
    ∷ kernel_step 0 (Break 1073152) (Ok (Returned 1073152)) (Some (filed 264 268 rw true 8192 1 ∷ filed 268 269 rw true 24576 1 ∷ filed 269 270 rw true 28672 1 ∷ []))
    ∷ kernel_step 0 (Remap 1097728 4096 4096 0 0) (Err 1) (Some (filed 264 268 rw true 8192 1 ∷ filed 268 269 rw true 24576 1 ∷ filed 269 270 rw true 28672 1 ∷ []))
    ∷ kernel_step 0 (Touch 268 Write) (Ok (Signal BusErr)) None
    ∷ kernel_step 0 (Break 1060872) (Ok (Returned 1073152)) (Some (filed 264 268 rw true 8192 1 ∷ filed 268 269 rw true 24576 1 ∷ filed 269 270 rw true 28672 1 ∷ []))
    ∷ kernel_step 0 (Remap 1097728 4096 4096 5 0) (Err 12) (Some (filed 264 268 rw true 8192 1 ∷ filed 268 269 rw true 24576 1 ∷ filed 269 270 rw true 28672 1 ∷ []))
    ∷ kernel_step 0 (Touch 267 Write) (Ok (Signal BusErr)) None
    ∷ kernel_step 0 (Remap 1101824 4096 4096 0 0) (Ok (Returned 1101824)) (Some (filed 264 268 rw true 8192 1 ∷ filed 268 269 rw true 24576 1 ∷ filed 269 270 rw true 28672 1 ∷ []))
    ∷ kernel_step 0 (Break 1081344) (Ok (Returned 1073152)) (Some (filed 264 268 rw true 8192 1 ∷ filed 268 269 rw true 24576 1 ∷ filed 269 270 rw true 28672 1 ∷ []))
    ∷ kernel_step 0 (Map 1085440 4096 r 290 (negsuc 0) 0) (Ok (Returned 140737354129408)) (Some (filed 264 268 rw true 8192 1 ∷ filed 268 269 rw true 24576 1 ∷ filed 269 270 rw true 28672 1 ∷ plain 34359705598 34359705599 r ∷ []))
    ∷ kernel_step 0 (Break 1069056) (Ok (Returned 1073152)) (Some (filed 264 268 rw true 8192 1 ∷ filed 268 269 rw true 24576 1 ∷ filed 269 270 rw true 28672 1 ∷ plain 34359705598 34359705599 r ∷ []))
    ∷ kernel_step 0 (Remap 1081344 16384 28672 1 0) (Err 12) (Some (filed 264 268 rw true 8192 1 ∷ filed 268 269 rw true 24576 1 ∷ filed 269 270 rw true 28672 1 ∷ plain 34359705598 34359705599 r ∷ []))
    ∷ kernel_step 0 (Touch 268 Write) (Ok (Signal BusErr)) None
    ∷ kernel_step 0 (Protect 1081344 16384 rw) (Ok (Returned 0)) (Some (filed 264 268 rw true 8192 1 ∷ filed 268 269 rw true 24576 1 ∷ filed 269 270 rw true 28672 1 ∷ plain 34359705598 34359705599 r ∷ []))
    ∷ kernel_step 0 (Remap 1097728 8192 8192 3 1101824) (Err 22) (Some (filed 264 268 rw true 8192 1 ∷ filed 268 269 rw true 24576 1 ∷ filed 269 270 rw true 28672 1 ∷ plain 34359705598 34359705599 r ∷ []))
    ∷ kernel_step 0 (Map 1056768 12288 rw 50 (negsuc 0) 0) (Ok (Returned 1056768)) (Some (plain 258 261 rw ∷ filed 264 268 rw true 8192 1 ∷ filed 268 269 rw true 24576 1 ∷ filed 269 270 rw true 28672 1 ∷ plain 34359705598 34359705599 r ∷ []))
    ∷ kernel_step 0 (Map 0 8192 r 34 (negsuc 0) 0) (Err 12) (Some (plain 258 261 rw ∷ filed 264 268 rw true 8192 1 ∷ filed 268 269 rw true 24576 1 ∷ filed 269 270 rw true 28672 1 ∷ plain 34359705598 34359705599 r ∷ []))
    ∷ []

-- hard_115: the kernel
abbrev pub hard_115_on : Kernel
hard_115_on = record { rules = linux_6_17; machine = record { lowest_built = 16; memory = 245000; stack = 8388608; has_keys = true; huge_always = true; files_are_huge = false; vsyscall = Xonly }; config = config 4096 140737354133504 65530 0 (file_row 3 true true 5000 ∷ []) }

-- hard_115: its answers
abbrev pub hard_115 : List Step
hard_115 =
    kernel_step 0 (Map 0 12288 w 34 (negsuc 0) 0) (Ok (Returned 140737354121216)) (Some (plain 34359705596 34359705599 w ∷ []))
    ∷ kernel_step 0 (Map 1114112 4096 rw 16434 (negsuc 0) 0) (Ok (Returned 1114112)) (Some (plain 272 273 rw ∷ plain 34359705596 34359705599 w ∷ []))
    ∷ kernel_step 0 (Map 1118208 4096 none 50 (negsuc 0) 0) (Ok (Returned 1118208)) (Some (plain 272 273 rw ∷ plain 273 274 none ∷ plain 34359705596 34359705599 w ∷ []))
    ∷ kernel_step 0 (Protect 1114112 4096 rx) (Ok (Returned 0)) (Some (plain 272 273 rx ∷ plain 273 274 none ∷ plain 34359705596 34359705599 w ∷ []))
    ∷ kernel_step 0 (Protect 1118208 4096 rw) (Ok (Returned 0)) (Some (plain 272 273 rx ∷ plain 273 274 rw ∷ plain 34359705596 34359705599 w ∷ []))
    ∷ kernel_step 0 (Touch 267 Write) (Ok (Signal MapErr)) None
    ∷ kernel_step 0 (Touch 273 Exec) (Ok (Signal AccErr)) None
    ∷ kernel_step 0 (Touch 273 Write) (Ok (Serves 273 274 rw false 0)) None
    ∷ kernel_step 0 (Unmap 1118208 4096) (Ok (Returned 0)) (Some (plain 272 273 rx ∷ plain 34359705596 34359705599 w ∷ []))
    ∷ kernel_step 0 (Protect 1114112 4096 rwx) (Ok (Returned 0)) (Some (plain 272 273 rwx ∷ plain 34359705596 34359705599 w ∷ []))
    ∷ kernel_step 0 (Touch 267 Write) (Ok (Signal MapErr)) None
    ∷ kernel_step 0 (Touch 272 Write) (Ok (Serves 272 273 rwx false 0)) None
    ∷ kernel_step 0 (Touch 272 Write) (Ok (Serves 272 273 rwx false 0)) None
    ∷ kernel_step 0 (Touch 269 Write) (Ok (Signal MapErr)) None
    ∷ kernel_step 0 (Map 1089536 8192 r 17 (pos 3) 8192) (Ok (Returned 1089536)) (Some (filed 266 268 r true 8192 1 ∷ plain 272 273 rwx ∷ plain 34359705596 34359705599 w ∷ []))
    ∷ kernel_step 0 (Remap 1089536 0 12288 3 1101824) (Ok (Returned 1101824)) (Some (filed 266 268 r true 8192 1 ∷ filed 269 272 r true 8192 1 ∷ plain 272 273 rwx ∷ plain 34359705596 34359705599 w ∷ []))
    ∷ kernel_step 0 (Touch 267 Write) (Ok (Signal AccErr)) None
    ∷ kernel_step 0 (Unmap 1101824 12288) (Ok (Returned 0)) (Some (filed 266 268 r true 8192 1 ∷ plain 272 273 rwx ∷ plain 34359705596 34359705599 w ∷ []))
    ∷ kernel_step 0 (Map 1118208 16384 x 49 (negsuc 0) 0) (Ok (Returned 1118208)) (Some (filed 266 268 r true 8192 1 ∷ plain 272 273 rwx ∷ filed 273 277 x true 0 2 ∷ plain 34359705596 34359705599 w ∷ []))
    ∷ kernel_step 0 (Map 1048576 16384 r 49 (negsuc 0) 0) (Ok (Returned 1048576)) (Some (filed 256 260 r true 0 3 ∷ filed 266 268 r true 8192 1 ∷ plain 272 273 rwx ∷ filed 273 277 x true 0 2 ∷ plain 34359705596 34359705599 w ∷ []))
    ∷ kernel_step 0 (Touch 267 Write) (Ok (Signal AccErr)) None
    ∷ kernel_step 0 (Touch 266 Write) (Ok (Signal AccErr)) None
    ∷ kernel_step 0 (Map 1064960 12288 w 131122 (negsuc 0) 0) (Ok (Returned 1064960)) (Some (filed 256 260 r true 0 3 ∷ plain 260 263 w ∷ filed 266 268 r true 8192 1 ∷ plain 272 273 rwx ∷ filed 273 277 x true 0 2 ∷ plain 34359705596 34359705599 w ∷ []))
    ∷ kernel_step 0 (Map 1122304 12288 rx 1 (pos 3) 8192) (Ok (Returned 140737354108928)) (Some (filed 256 260 r true 0 3 ∷ plain 260 263 w ∷ filed 266 268 r true 8192 1 ∷ plain 272 273 rwx ∷ filed 273 277 x true 0 2 ∷ filed 34359705593 34359705596 rx true 8192 1 ∷ plain 34359705596 34359705599 w ∷ []))
    ∷ kernel_step 0 (Remap 1056768 16384 12288 1 0) (Ok (Returned 1056768)) (Some (filed 256 260 r true 0 3 ∷ plain 260 261 w ∷ plain 262 263 w ∷ filed 266 268 r true 8192 1 ∷ plain 272 273 rwx ∷ filed 273 277 x true 0 2 ∷ filed 34359705593 34359705596 rx true 8192 1 ∷ plain 34359705596 34359705599 w ∷ []))
    ∷ kernel_step 0 (Seal 1064960 4096 0) (Ok (Returned 0)) (Some (filed 256 260 r true 0 3 ∷ plain 260 261 w ∷ plain 262 263 w ∷ filed 266 268 r true 8192 1 ∷ plain 272 273 rwx ∷ filed 273 277 x true 0 2 ∷ filed 34359705593 34359705596 rx true 8192 1 ∷ plain 34359705596 34359705599 w ∷ []))
    ∷ kernel_step 0 (Map 1073152 8192 x 50 (negsuc 0) 0) (Ok (Returned 1073152)) (Some (filed 256 260 r true 0 3 ∷ plain 260 261 w ∷ plain 262 264 x ∷ filed 266 268 r true 8192 1 ∷ plain 272 273 rwx ∷ filed 273 277 x true 0 2 ∷ filed 34359705593 34359705596 rx true 8192 1 ∷ plain 34359705596 34359705599 w ∷ []))
    ∷ kernel_step 0 (Remap 1073152 8192 12288 1 0) (Ok (Returned 1073152)) (Some (filed 256 260 r true 0 3 ∷ plain 260 261 w ∷ plain 262 265 x ∷ filed 266 268 r true 8192 1 ∷ plain 272 273 rwx ∷ filed 273 277 x true 0 2 ∷ filed 34359705593 34359705596 rx true 8192 1 ∷ plain 34359705596 34359705599 w ∷ []))
    ∷ kernel_step 0 (Map 1064960 16384 x 50 (negsuc 0) 0) (Err 1) (Some (filed 256 260 r true 0 3 ∷ plain 260 261 w ∷ plain 262 265 x ∷ filed 266 268 r true 8192 1 ∷ plain 272 273 rwx ∷ filed 273 277 x true 0 2 ∷ filed 34359705593 34359705596 rx true 8192 1 ∷ plain 34359705596 34359705599 w ∷ []))
    ∷ kernel_step 0 (Remap 1069056 16384 16384 7 1073152) (Err 22) (Some (filed 256 260 r true 0 3 ∷ plain 260 261 w ∷ plain 262 265 x ∷ filed 266 268 r true 8192 1 ∷ plain 272 273 rwx ∷ filed 273 277 x true 0 2 ∷ filed 34359705593 34359705596 rx true 8192 1 ∷ plain 34359705596 34359705599 w ∷ []))
    ∷ []

-- written_121: the kernel
abbrev pub written_121_on : Kernel
written_121_on = record { rules = linux_6_17; machine = record { lowest_built = 16; memory = 245000; stack = 8388608; has_keys = true; huge_always = true; files_are_huge = false; vsyscall = Xonly }; config = config 4096 140737354133504 65530 0 (file_row 3 true false 20000 ∷ []) }

-- written_121: its answers
abbrev pub written_121 : List Step
written_121 =
    kernel_step 0 (Map 1052672 8192 r 50 (negsuc 0) 0) (Ok (Returned 1052672)) (Some (plain 257 259 r ∷ []))
    ∷ kernel_step 0 (Map 1052672 4096 rw 306 (negsuc 0) 0) (Ok (Returned 1052672)) (Some (plain 257 258 rw ∷ plain 258 259 r ∷ []))
    ∷ kernel_step 0 (Touch 255 Read) (Ok (Serves 255 258 rw false 0)) None
    ∷ kernel_step 0 (Protect 1044480 12288 r) (Ok (Returned 0)) (Some (plain 255 258 r ∷ plain 258 259 r ∷ []))
    ∷ kernel_step 0 (Protect 1069056 16384 r) (Err 12) (Some (plain 255 258 r ∷ plain 258 259 r ∷ []))
    ∷ kernel_step 0 (Protect 1044480 12288 rw) (Ok (Returned 0)) (Some (plain 255 258 rw ∷ plain 258 259 r ∷ []))
    ∷ kernel_step 0 (Remap 1052672 8192 8192 7 1576960) (Ok (Returned 1576960)) (Some (plain 255 258 rw ∷ plain 258 259 r ∷ plain 385 386 rw ∷ plain 386 387 r ∷ []))
    ∷ kernel_step 0 (Map 1060864 12288 rw 50 (negsuc 0) 0) (Ok (Returned 1060864)) (Some (plain 255 258 rw ∷ plain 258 259 r ∷ plain 259 262 rw ∷ plain 385 386 rw ∷ plain 386 387 r ∷ []))
    ∷ kernel_step 0 (Protect 1077248 8192 r) (Err 12) (Some (plain 255 258 rw ∷ plain 258 259 r ∷ plain 259 262 rw ∷ plain 385 386 rw ∷ plain 386 387 r ∷ []))
    ∷ kernel_step 0 (Map 1048576 16384 r 131378 (negsuc 0) 0) (Ok (Returned 1048576)) (Some (plain 255 256 rw ∷ plain 256 260 r ∷ plain 260 262 rw ∷ plain 385 386 rw ∷ plain 386 387 r ∷ []))
    ∷ kernel_step 0 (Remap 1581056 4096 4096 3 1056768) (Ok (Returned 1056768)) (Some (plain 255 256 rw ∷ plain 256 258 r ∷ plain 258 259 r ∷ plain 259 260 r ∷ plain 260 262 rw ∷ plain 385 386 rw ∷ []))
    ∷ kernel_step 0 (Map 1048576 8192 r 306 (negsuc 0) 0) (Ok (Returned 1048576)) (Some (plain 255 256 rw ∷ plain 256 258 r ∷ plain 258 259 r ∷ plain 259 260 r ∷ plain 260 262 rw ∷ plain 385 386 rw ∷ []))
    ∷ kernel_step 0 (Map 1064960 4096 rw 50 (negsuc 0) 0) (Ok (Returned 1064960)) (Some (plain 255 256 rw ∷ plain 256 258 r ∷ plain 258 259 r ∷ plain 259 260 r ∷ plain 260 262 rw ∷ plain 385 386 rw ∷ []))
    ∷ kernel_step 0 (Touch 1 Read) (Ok (Signal MapErr)) None
    ∷ kernel_step 0 (Protect 1064960 4096 r) (Ok (Returned 0)) (Some (plain 255 256 rw ∷ plain 256 258 r ∷ plain 258 259 r ∷ plain 259 260 r ∷ plain 260 261 r ∷ plain 261 262 rw ∷ plain 385 386 rw ∷ []))
    ∷ kernel_step 0 (Protect 1077248 12288 r) (Err 12) (Some (plain 255 256 rw ∷ plain 256 258 r ∷ plain 258 259 r ∷ plain 259 260 r ∷ plain 260 261 r ∷ plain 261 262 rw ∷ plain 385 386 rw ∷ []))
    ∷ kernel_step 0 (Protect 1048576 16384 r) (Ok (Returned 0)) (Some (plain 255 256 rw ∷ plain 256 258 r ∷ plain 258 259 r ∷ plain 259 260 r ∷ plain 260 261 r ∷ plain 261 262 rw ∷ plain 385 386 rw ∷ []))
    ∷ kernel_step 0 (Protect 1048576 4096 r) (Ok (Returned 0)) (Some (plain 255 256 rw ∷ plain 256 258 r ∷ plain 258 259 r ∷ plain 259 260 r ∷ plain 260 261 r ∷ plain 261 262 rw ∷ plain 385 386 rw ∷ []))
    ∷ kernel_step 0 (Protect 1069056 4096 rw) (Ok (Returned 0)) (Some (plain 255 256 rw ∷ plain 256 258 r ∷ plain 258 259 r ∷ plain 259 260 r ∷ plain 260 261 r ∷ plain 261 262 rw ∷ plain 385 386 rw ∷ []))
    ∷ kernel_step 0 (Map 1073152 16384 rw 50 (negsuc 0) 0) (Ok (Returned 1073152)) (Some (plain 255 256 rw ∷ plain 256 258 r ∷ plain 258 259 r ∷ plain 259 260 r ∷ plain 260 261 r ∷ plain 261 266 rw ∷ plain 385 386 rw ∷ []))
    ∷ kernel_step 0 (Touch 261 Read) (Ok (Serves 261 266 rw false 0)) None
    ∷ kernel_step 0 (Map 1052672 4096 rw 306 (negsuc 0) 0) (Ok (Returned 1052672)) (Some (plain 255 256 rw ∷ plain 256 257 r ∷ plain 257 258 rw ∷ plain 258 259 r ∷ plain 259 260 r ∷ plain 260 261 r ∷ plain 261 266 rw ∷ plain 385 386 rw ∷ []))
    ∷ kernel_step 0 (Map 1077248 8192 rw 306 (negsuc 0) 0) (Ok (Returned 1077248)) (Some (plain 255 256 rw ∷ plain 256 257 r ∷ plain 257 258 rw ∷ plain 258 259 r ∷ plain 259 260 r ∷ plain 260 261 r ∷ plain 261 263 rw ∷ plain 263 265 rw ∷ plain 265 266 rw ∷ plain 385 386 rw ∷ []))
    ∷ kernel_step 0 (Map 1052672 4096 rw 50 (negsuc 0) 0) (Ok (Returned 1052672)) (Some (plain 255 256 rw ∷ plain 256 257 r ∷ plain 257 258 rw ∷ plain 258 259 r ∷ plain 259 260 r ∷ plain 260 261 r ∷ plain 261 263 rw ∷ plain 263 265 rw ∷ plain 265 266 rw ∷ plain 385 386 rw ∷ []))
    ∷ kernel_step 0 (Map 1069056 4096 rw 50 (negsuc 0) 0) (Ok (Returned 1069056)) (Some (plain 255 256 rw ∷ plain 256 257 r ∷ plain 257 258 rw ∷ plain 258 259 r ∷ plain 259 260 r ∷ plain 260 261 r ∷ plain 261 263 rw ∷ plain 263 265 rw ∷ plain 265 266 rw ∷ plain 385 386 rw ∷ []))
    ∷ kernel_step 0 (Protect 1077248 8192 rw) (Ok (Returned 0)) (Some (plain 255 256 rw ∷ plain 256 257 r ∷ plain 257 258 rw ∷ plain 258 259 r ∷ plain 259 260 r ∷ plain 260 261 r ∷ plain 261 263 rw ∷ plain 263 265 rw ∷ plain 265 266 rw ∷ plain 385 386 rw ∷ []))
    ∷ kernel_step 0 (Protect 1056768 8192 rw) (Ok (Returned 0)) (Some (plain 255 256 rw ∷ plain 256 257 r ∷ plain 257 259 rw ∷ plain 259 260 rw ∷ plain 260 261 r ∷ plain 261 263 rw ∷ plain 263 265 rw ∷ plain 265 266 rw ∷ plain 385 386 rw ∷ []))
    ∷ kernel_step 0 (Touch 253 Write) (Ok (Serves 253 256 rw false 0)) None
    ∷ kernel_step 0 (Protect 1036288 12288 rw) (Ok (Returned 0)) (Some (plain 253 256 rw ∷ plain 256 257 r ∷ plain 257 259 rw ∷ plain 259 260 rw ∷ plain 260 261 r ∷ plain 261 263 rw ∷ plain 263 265 rw ∷ plain 265 266 rw ∷ plain 385 386 rw ∷ []))
    ∷ kernel_step 0 (Map 1077248 8192 rw 50 (negsuc 0) 0) (Ok (Returned 1077248)) (Some (plain 253 256 rw ∷ plain 256 257 r ∷ plain 257 259 rw ∷ plain 259 260 rw ∷ plain 260 261 r ∷ plain 261 266 rw ∷ plain 385 386 rw ∷ []))
    ∷ []

-- written_limit_127: the kernel
abbrev pub written_limit_127_on : Kernel
written_limit_127_on = record { rules = linux_6_17; machine = record { lowest_built = 16; memory = 245000; stack = 8388608; has_keys = true; huge_always = true; files_are_huge = false; vsyscall = Xonly }; config = config 4096 140737354133504 8 0 ([]) }

-- written_limit_127: its answers
abbrev pub written_limit_127 : List Step
written_limit_127 =
    kernel_step 0 (Map 1064960 16384 rw 50 (negsuc 0) 0) (Ok (Returned 1064960)) (Some (plain 260 264 rw ∷ []))
    ∷ kernel_step 0 (Map 1052672 4096 rw 50 (negsuc 0) 0) (Ok (Returned 1052672)) (Some (plain 257 258 rw ∷ plain 260 264 rw ∷ []))
    ∷ kernel_step 0 (Touch 260 Read) (Ok (Serves 260 264 rw false 0)) None
    ∷ kernel_step 0 (Touch 257 Read) (Ok (Serves 257 258 rw false 0)) None
    ∷ kernel_step 0 (Remap 1069056 16384 16384 3 1576960) (Ok (Returned 1576960)) (Some (plain 257 258 rw ∷ plain 260 261 rw ∷ plain 385 388 rw ∷ []))
    ∷ kernel_step 0 (Map 1069056 16384 rw 50 (negsuc 0) 0) (Ok (Returned 1069056)) (Some (plain 257 258 rw ∷ plain 260 265 rw ∷ plain 385 388 rw ∷ []))
    ∷ kernel_step 0 (Protect 1056768 16384 rw) (Err 12) (Some (plain 257 258 rw ∷ plain 260 265 rw ∷ plain 385 388 rw ∷ []))
    ∷ kernel_step 0 (Touch 257 Read) (Ok (Serves 257 258 rw false 0)) None
    ∷ kernel_step 0 (Protect 1052672 4096 rw) (Ok (Returned 0)) (Some (plain 257 258 rw ∷ plain 260 265 rw ∷ plain 385 388 rw ∷ []))
    ∷ kernel_step 0 (Remap 1064960 20480 24576 3 1056768) (Err 22) (Some (plain 257 258 rw ∷ plain 260 265 rw ∷ plain 385 388 rw ∷ []))
    ∷ kernel_step 0 (Touch 260 Write) (Ok (Serves 260 265 rw false 0)) None
    ∷ kernel_step 0 (Fork 1) (Ok (Returned 0)) None
    ∷ kernel_step 0 (Unmap 1056768 16384) (Ok (Returned 0)) (Some (plain 257 258 rw ∷ plain 262 265 rw ∷ plain 385 388 rw ∷ []))
    ∷ kernel_step 0 (Remap 1052672 4096 4096 3 1572864) (Err 12) (Some (plain 257 258 rw ∷ plain 262 265 rw ∷ plain 385 388 rw ∷ []))
    ∷ kernel_step 1 (Touch 262 Write) (Ok (Serves 260 265 rw false 0)) None
    ∷ kernel_step 1 (Map 1069056 4096 rw 50 (negsuc 0) 0) (Ok (Returned 1069056)) (Some (plain 257 258 rw ∷ plain 260 261 rw ∷ plain 261 262 rw ∷ plain 262 265 rw ∷ plain 385 388 rw ∷ []))
    ∷ kernel_step 0 (Touch 257 Write) (Ok (Serves 257 258 rw false 0)) None
    ∷ kernel_step 1 (Protect 1064960 20480 rw) (Ok (Returned 0)) (Some (plain 257 258 rw ∷ plain 260 261 rw ∷ plain 261 262 rw ∷ plain 262 265 rw ∷ plain 385 388 rw ∷ []))
    ∷ kernel_step 0 (Remap 1576960 16384 16384 3 1069056) (Err 12) (Some (plain 257 258 rw ∷ plain 262 265 rw ∷ plain 385 388 rw ∷ []))
    ∷ kernel_step 1 (Touch 257 Write) (Ok (Serves 257 258 rw false 0)) None
    ∷ kernel_step 1 (Touch 257 Write) (Ok (Serves 257 258 rw false 0)) None
    ∷ kernel_step 1 (Protect 1069056 4096 rw) (Ok (Returned 0)) (Some (plain 257 258 rw ∷ plain 260 261 rw ∷ plain 261 262 rw ∷ plain 262 265 rw ∷ plain 385 388 rw ∷ []))
    ∷ kernel_step 1 (Remap 1052672 12288 12288 3 1073152) (Err 12) (Some (plain 257 258 rw ∷ plain 260 261 rw ∷ plain 261 262 rw ∷ plain 262 265 rw ∷ plain 385 388 rw ∷ []))
    ∷ kernel_step 1 (Remap 1073152 12288 12288 3 1052672) (Err 12) (Some (plain 257 258 rw ∷ plain 260 261 rw ∷ plain 261 262 rw ∷ plain 262 265 rw ∷ plain 385 388 rw ∷ []))
    ∷ kernel_step 0 (Protect 1069056 12288 rw) (Err 12) (Some (plain 257 258 rw ∷ plain 262 265 rw ∷ plain 385 388 rw ∷ []))
    ∷ kernel_step 1 (Touch 257 Write) (Ok (Serves 257 258 rw false 0)) None
    ∷ kernel_step 1 (Touch 260 Read) (Ok (Serves 260 261 rw false 0)) (Some (plain 257 258 rw ∷ plain 260 261 rw ∷ plain 261 262 rw ∷ plain 262 265 rw ∷ plain 385 388 rw ∷ []))
    ∷ kernel_step 0 (Protect 1073152 12288 rw) (Ok (Returned 0)) (Some (plain 257 258 rw ∷ plain 262 265 rw ∷ plain 385 388 rw ∷ []))
    ∷ kernel_step 0 (Protect 1077248 16384 rw) (Err 12) (Some (plain 257 258 rw ∷ plain 262 265 rw ∷ plain 385 388 rw ∷ []))
    ∷ kernel_step 0 (Remap 1572864 4096 4096 3 1052672) (Err 12) (Some (plain 257 258 rw ∷ plain 262 265 rw ∷ plain 385 388 rw ∷ []))
    ∷ []

-- written_limit_151: the kernel
abbrev pub written_limit_151_on : Kernel
written_limit_151_on = record { rules = linux_6_17; machine = record { lowest_built = 16; memory = 245000; stack = 8388608; has_keys = true; huge_always = true; files_are_huge = false; vsyscall = Xonly }; config = config 4096 140737354133504 8 0 (file_row 3 true false 0 ∷ file_row 4 true false 20000 ∷ []) }

-- written_limit_151: its answers
abbrev pub written_limit_151 : List Step
written_limit_151 =
    kernel_step 0 (Map 1048576 16384 rw 50 (negsuc 0) 0) (Ok (Returned 1048576)) (Some (plain 256 260 rw ∷ []))
    ∷ kernel_step 0 (Map 1085440 12288 rw 50 (negsuc 0) 0) (Ok (Returned 1085440)) (Some (plain 256 260 rw ∷ plain 265 268 rw ∷ []))
    ∷ kernel_step 0 (Protect 1093632 16384 rw) (Err 12) (Some (plain 256 260 rw ∷ plain 265 268 rw ∷ []))
    ∷ kernel_step 0 (Touch 266 Write) (Ok (Serves 265 268 rw false 0)) None
    ∷ kernel_step 0 (Protect 1085440 16384 rw) (Err 12) (Some (plain 256 260 rw ∷ plain 265 268 rw ∷ []))
    ∷ kernel_step 0 (Fork 1) (Ok (Returned 0)) None
    ∷ kernel_step 0 (Map 1085440 16384 rw 50 (negsuc 0) 0) (Ok (Returned 1085440)) (Some (plain 256 260 rw ∷ plain 265 269 rw ∷ []))
    ∷ kernel_step 1 (Touch 266 Write) (Ok (Serves 265 268 rw false 0)) None
    ∷ kernel_step 1 (Remap 1085440 8192 8192 3 1572864) (Ok (Returned 1572864)) (Some (plain 256 260 rw ∷ plain 267 268 rw ∷ plain 384 386 rw ∷ []))
    ∷ kernel_step 1 (Remap 1572864 8192 8192 3 1085440) (Err 12) (Some (plain 256 260 rw ∷ plain 267 268 rw ∷ plain 384 386 rw ∷ []))
    ∷ kernel_step 0 (Protect 1077248 12288 rw) (Err 12) (Some (plain 256 260 rw ∷ plain 265 269 rw ∷ []))
    ∷ kernel_step 1 (Touch 266 Write) (Ok (Signal MapErr)) None
    ∷ kernel_step 1 (Touch 385 Write) (Ok (Serves 384 386 rw false 0)) None
    ∷ kernel_step 1 (Remap 1048576 16384 16384 3 1642496) (Err 12) (Some (plain 256 260 rw ∷ plain 267 268 rw ∷ plain 384 386 rw ∷ []))
    ∷ kernel_step 1 (Touch 257 Write) (Ok (Serves 256 260 rw false 0)) None
    ∷ kernel_step 0 (Fork 2) (Ok (Returned 0)) None
    ∷ kernel_step 0 (Protect 1081344 8192 rw) (Err 12) (Some (plain 256 260 rw ∷ plain 265 269 rw ∷ []))
    ∷ kernel_step 2 (Protect 1048576 4096 rw) (Ok (Returned 0)) (Some (plain 256 260 rw ∷ plain 265 269 rw ∷ []))
    ∷ kernel_step 1 (Map 1085440 4096 rw 50 (negsuc 0) 0) (Ok (Returned 1085440)) (Some (plain 256 260 rw ∷ plain 265 266 rw ∷ plain 267 268 rw ∷ plain 384 386 rw ∷ []))
    ∷ kernel_step 1 (Map 1052672 4096 rw 16434 (negsuc 0) 0) (Ok (Returned 1052672)) (Some (plain 256 257 rw ∷ plain 257 258 rw ∷ plain 258 260 rw ∷ plain 265 266 rw ∷ plain 267 268 rw ∷ plain 384 386 rw ∷ []))
    ∷ kernel_step 2 (Touch 267 Write) (Ok (Serves 265 269 rw false 0)) None
    ∷ kernel_step 0 (Fork 3) (Ok (Returned 0)) None
    ∷ kernel_step 0 (Touch 268 Write) (Ok (Serves 265 269 rw false 0)) None
    ∷ kernel_step 2 (Touch 265 Write) (Ok (Serves 265 269 rw false 0)) None
    ∷ kernel_step 3 (Touch 267 Write) (Ok (Serves 265 269 rw false 0)) (Some (plain 256 260 rw ∷ plain 265 269 rw ∷ []))
    ∷ kernel_step 0 (Protect 1085440 16384 rw) (Ok (Returned 0)) (Some (plain 256 260 rw ∷ plain 265 269 rw ∷ []))
    ∷ kernel_step 2 (Remap 1056768 24576 24576 3 1085440) (Ok (Returned 1085440)) (Some (plain 256 258 rw ∷ plain 265 269 rw ∷ []))
    ∷ kernel_step 2 (Map 1081344 8192 rw 50 (negsuc 0) 0) (Ok (Returned 1081344)) (Some (plain 256 258 rw ∷ plain 264 269 rw ∷ []))
    ∷ kernel_step 2 (Protect 1052672 20480 rw) (Err 12) (Some (plain 256 258 rw ∷ plain 264 269 rw ∷ []))
    ∷ kernel_step 2 (Protect 1064960 4096 rw) (Err 12) (Some (plain 256 258 rw ∷ plain 264 269 rw ∷ []))
    ∷ []

-- hard_160: the kernel
abbrev pub hard_160_on : Kernel
hard_160_on = record { rules = linux_6_17; machine = record { lowest_built = 16; memory = 245000; stack = 8388608; has_keys = true; huge_always = true; files_are_huge = false; vsyscall = Xonly }; config = config 4096 140737354133504 65530 0 (file_row 3 false true 90000 ∷ file_row 4 false true 90000 ∷ file_row 5 true true 20000 ∷ []) }

-- hard_160: its answers
abbrev pub hard_160 : List Step
hard_160 =
    kernel_step 0 (Map 1118208 4096 rwx 18 (pos 3) 12288) (Err 13) (Some ([]))
    ∷ kernel_step 0 (Map 1077248 12288 x 50 (negsuc 0) 0) (Ok (Returned 1077248)) (Some (plain 263 266 x ∷ []))
    ∷ kernel_step 0 (Fork 1) (Ok (Returned 0)) None
    ∷ kernel_step 1 (Remap 1077248 12288 12288 3 1069056) (Err 22) (Some (plain 263 266 x ∷ []))
    ∷ kernel_step 1 (Touch 271 Write) (Ok (Signal MapErr)) None
    ∷ kernel_step 1 (Protect 1077248 12288 r) (Ok (Returned 0)) (Some (plain 263 266 r ∷ []))
    ∷ kernel_step 1 (Unmap 1077248 12288) (Ok (Returned 0)) (Some ([]))
    ∷ kernel_step 0 (Map 0 3145728 x 34 (negsuc 0) 0) (Ok (Returned 140737350987776)) (Some (plain 263 266 x ∷ plain 34359704831 34359705599 x ∷ []))
    ∷ kernel_step 1 (Remap 1089536 20480 20480 3 1101824) (Err 22) (Some ([]))
    ∷ kernel_step 0 (Map 1085440 8192 x 50 (negsuc 0) 0) (Ok (Returned 1085440)) (Some (plain 263 267 x ∷ plain 34359704831 34359705599 x ∷ []))
    ∷ kernel_step 0 (Map 1101824 4096 r 32769 (pos 4) 4096) (Err 13) (Some (plain 263 267 x ∷ plain 34359704831 34359705599 x ∷ []))
    ∷ kernel_step 1 (Unmap 1097728 16384) (Ok (Returned 0)) (Some ([]))
    ∷ kernel_step 0 (Touch 266 Write) (Ok (Signal PkuErr)) None
    ∷ kernel_step 0 (Touch 266 Write) (Ok (Signal PkuErr)) None
    ∷ kernel_step 0 (Touch 264 Read) (Ok (Signal PkuErr)) None
    ∷ kernel_step 0 (Protect 1077248 16384 x) (Ok (Returned 0)) (Some (plain 263 267 x ∷ plain 34359704831 34359705599 x ∷ []))
    ∷ kernel_step 1 (Map 1085440 12288 r 50 (negsuc 0) 0) (Ok (Returned 1085440)) (Some (plain 265 268 r ∷ []))
    ∷ kernel_step 0 (Unmap 1077248 16384) (Ok (Returned 0)) (Some (plain 34359704831 34359705599 x ∷ []))
    ∷ kernel_step 0 (Map 1060864 4096 none 50 (negsuc 0) 0) (Ok (Returned 1060864)) (Some (plain 259 260 none ∷ plain 34359704831 34359705599 x ∷ []))
    ∷ kernel_step 1 (Map 1101824 8192 none 1048609 (negsuc 0) 0) (Ok (Returned 1101824)) (Some (plain 265 268 r ∷ filed 269 271 none true 0 4 ∷ []))
    ∷ kernel_step 0 (Fork 2) (Ok (Returned 0)) None
    ∷ kernel_step 0 (Map 0 68719476736 x 34 (negsuc 0) 0) (Ok (Returned 140668630466560)) (Some (plain 259 260 none ∷ plain 34342927360 34359704576 x ∷ plain 34359704831 34359705599 x ∷ []))
    ∷ kernel_step 2 (Touch 272 Write) (Ok (Signal MapErr)) None
    ∷ kernel_step 1 (Touch 269 Read) (Ok (Signal AccErr)) (Some (plain 265 268 r ∷ filed 269 271 none true 0 4 ∷ []))
    ∷ kernel_step 0 (Map 0 2097152 r 34 (negsuc 0) 0) (Ok (Returned 140668628369408)) (Some (plain 259 260 none ∷ plain 34342926848 34342927360 r ∷ plain 34342927360 34359704576 x ∷ plain 34359704831 34359705599 x ∷ []))
    ∷ kernel_step 2 (Touch 274 Write) (Ok (Signal MapErr)) None
    ∷ kernel_step 0 (Touch 259 Write) (Ok (Signal AccErr)) None
    ∷ kernel_step 2 (Touch 259 Write) (Ok (Signal AccErr)) None
    ∷ kernel_step 0 (Remap 1060864 4096 4096 5 0) (Ok (Returned 140737350983680)) (Some (plain 259 260 none ∷ plain 34342926848 34342927360 r ∷ plain 34342927360 34359704576 x ∷ plain 34359704830 34359704831 none ∷ plain 34359704831 34359705599 x ∷ []))
    ∷ kernel_step 2 (Protect 1060864 4096 r) (Ok (Returned 0)) (Some (plain 259 260 r ∷ plain 34359704831 34359705599 x ∷ []))
    ∷ []

-- written_166: the kernel
abbrev pub written_166_on : Kernel
written_166_on = record { rules = linux_6_17; machine = record { lowest_built = 16; memory = 245000; stack = 8388608; has_keys = true; huge_always = true; files_are_huge = false; vsyscall = Xonly }; config = config 4096 140737354133504 65530 0 (file_row 3 true false 90000 ∷ file_row 4 false true 20000 ∷ []) }

-- written_166: its answers
abbrev pub written_166 : List Step
written_166 =
    kernel_step 0 (Map 1064960 16384 rw 50 (negsuc 0) 0) (Ok (Returned 1064960)) (Some (plain 260 264 rw ∷ []))
    ∷ kernel_step 0 (Map 1052672 8192 rw 50 (negsuc 0) 0) (Ok (Returned 1052672)) (Some (plain 257 259 rw ∷ plain 260 264 rw ∷ []))
    ∷ kernel_step 0 (Touch 258 Write) (Ok (Serves 257 259 rw false 0)) None
    ∷ kernel_step 0 (Touch 258 Write) (Ok (Serves 257 259 rw false 0)) None
    ∷ kernel_step 0 (Touch 258 Write) (Ok (Serves 257 259 rw false 0)) None
    ∷ kernel_step 0 (Touch 257 Write) (Ok (Serves 257 259 rw false 0)) None
    ∷ kernel_step 0 (Touch 260 Write) (Ok (Serves 260 264 rw false 0)) None
    ∷ kernel_step 0 (Protect 1064960 12288 rw) (Ok (Returned 0)) (Some (plain 257 259 rw ∷ plain 260 264 rw ∷ []))
    ∷ kernel_step 0 (Map 1064960 34359758848 r 50 (negsuc 0) 0) (Ok (Returned 1064960)) (Some (plain 257 259 rw ∷ plain 260 8388873 r ∷ []))
    ∷ kernel_step 0 (Remap 1056768 12288 12288 7 1642496) (Ok (Returned 1642496)) (Some (plain 257 259 rw ∷ plain 260 401 r ∷ plain 401 402 rw ∷ plain 402 8388873 r ∷ []))
    ∷ kernel_step 0 (Touch 257 Write) (Ok (Serves 257 259 rw false 0)) None
    ∷ kernel_step 0 (Protect 1052672 589824 r) (Err 12) (Some (plain 257 259 r ∷ plain 260 401 r ∷ plain 401 402 rw ∷ plain 402 8388873 r ∷ []))
    ∷ kernel_step 0 (Map 1064960 12288 rw 50 (negsuc 0) 0) (Ok (Returned 1064960)) (Some (plain 257 259 r ∷ plain 260 263 rw ∷ plain 263 401 r ∷ plain 401 402 rw ∷ plain 402 8388873 r ∷ []))
    ∷ kernel_step 0 (Fork 1) (Ok (Returned 0)) None
    ∷ kernel_step 1 (Remap 1110016 24576 24576 7 1638400) (Ok (Returned 1638400)) (Some (plain 257 259 r ∷ plain 260 263 rw ∷ plain 263 8388873 r ∷ []))
    ∷ kernel_step 1 (Protect 1052672 12288 rw) (Err 12) (Some (plain 257 259 rw ∷ plain 260 263 rw ∷ plain 263 8388873 r ∷ []))
    ∷ kernel_step 1 (Touch 268 Write) (Ok (Signal AccErr)) None
    ∷ kernel_step 1 (Touch 260 Read) (Ok (Serves 260 263 rw false 0)) None
    ∷ kernel_step 0 (Map 1052672 16384 rw 50 (negsuc 0) 0) (Ok (Returned 1052672)) (Some (plain 257 263 rw ∷ plain 263 401 r ∷ plain 401 402 rw ∷ plain 402 8388873 r ∷ []))
    ∷ kernel_step 0 (Touch 258 Write) (Ok (Serves 257 263 rw false 0)) None
    ∷ kernel_step 0 (Protect 1060864 16384 r) (Ok (Returned 0)) (Some (plain 257 259 rw ∷ plain 259 263 r ∷ plain 263 401 r ∷ plain 401 402 rw ∷ plain 402 8388873 r ∷ []))
    ∷ kernel_step 1 (Touch 257 Read) (Ok (Serves 257 259 rw false 0)) None
    ∷ kernel_step 0 (Touch 405 Write) (Ok (Signal AccErr)) None
    ∷ kernel_step 1 (Touch 262 Write) (Ok (Serves 260 263 rw false 0)) None
    ∷ kernel_step 1 (Remap 1638400 24576 24576 3 1110016) (Ok (Returned 1110016)) (Some (plain 257 259 rw ∷ plain 260 263 rw ∷ plain 263 400 r ∷ plain 406 8388873 r ∷ []))
    ∷ kernel_step 0 (Unmap 1052672 4096) (Ok (Returned 0)) (Some (plain 258 259 rw ∷ plain 259 263 r ∷ plain 263 401 r ∷ plain 401 402 rw ∷ plain 402 8388873 r ∷ []))
    ∷ kernel_step 1 (Remap 1642496 12288 12288 3 1056768) (Err 14) (Some (plain 257 259 rw ∷ plain 260 263 rw ∷ plain 263 400 r ∷ plain 406 8388873 r ∷ []))
    ∷ kernel_step 0 (Remap 1056768 20480 20480 3 1605632) (Ok (Returned 1605632)) (Some (plain 263 392 r ∷ plain 392 393 rw ∷ plain 393 397 r ∷ plain 397 401 r ∷ plain 401 402 rw ∷ plain 402 8388873 r ∷ []))
    ∷ kernel_step 1 (Protect 1077248 49152 rw) (Ok (Returned 0)) (Some (plain 257 259 rw ∷ plain 260 275 rw ∷ plain 275 400 r ∷ plain 406 8388873 r ∷ []))
    ∷ kernel_step 0 (Remap 1048576 4096 8192 3 34360823808) (Err 14) (Some (plain 263 392 r ∷ plain 392 393 rw ∷ plain 393 397 r ∷ plain 397 401 r ∷ plain 401 402 rw ∷ plain 402 8388873 r ∷ []))
    ∷ []

-- hard_200: the kernel
abbrev pub hard_200_on : Kernel
hard_200_on = record { rules = linux_6_17; machine = record { lowest_built = 16; memory = 245000; stack = 8388608; has_keys = true; huge_always = true; files_are_huge = false; vsyscall = Xonly }; config = config 4096 140737354133504 65530 0 (file_row 3 true false 90000 ∷ file_row 4 true true 0 ∷ []) }

-- hard_200: its answers
abbrev pub hard_200 : List Step
hard_200 =
    kernel_step 0 (Map 0 8192 r 34 (negsuc 0) 0) (Ok (Returned 140737354125312)) (Some (plain 34359705597 34359705599 r ∷ []))
    ∷ kernel_step 0 (Map 140737354133504 4096 r 50 (negsuc 0) 0) (Ok (Returned 140737354133504)) (Some (plain 34359705597 34359705600 r ∷ []))
    ∷ kernel_step 0 (Touch 34359705599 Write) (Ok (Signal AccErr)) None
    ∷ kernel_step 0 (Remap 1105920 8192 8192 3 1089536) (Err 14) (Some (plain 34359705597 34359705600 r ∷ []))
    ∷ kernel_step 0 (Touch 34359705597 Write) (Ok (Signal AccErr)) None
    ∷ kernel_step 0 (Touch 34359705598 Write) (Ok (Signal AccErr)) None
    ∷ kernel_step 0 (Seal 140737354125312 12288 0) (Ok (Returned 0)) (Some (plain 34359705597 34359705600 r ∷ []))
    ∷ kernel_step 0 (Map 1114112 8192 rw 1048577 (pos 3) 0) (Err 13) (Some (plain 34359705597 34359705600 r ∷ []))
    ∷ kernel_step 0 (Map 1048576 8192 rw 50 (negsuc 0) 0) (Ok (Returned 1048576)) (Some (plain 256 258 rw ∷ plain 34359705597 34359705600 r ∷ []))
    ∷ kernel_step 0 (Remap 1048576 8192 12288 1 0) (Ok (Returned 1048576)) (Some (plain 256 259 rw ∷ plain 34359705597 34359705600 r ∷ []))
    ∷ kernel_step 0 (Touch 256 Write) (Ok (Serves 256 259 rw false 0)) None
    ∷ kernel_step 0 (Touch 257 Write) (Ok (Serves 256 259 rw false 0)) None
    ∷ kernel_step 0 (Remap 1048576 4096 12288 1 0) (Ok (Returned 140737354113024)) (Some (plain 257 259 rw ∷ plain 34359705594 34359705597 rw ∷ plain 34359705597 34359705600 r ∷ []))
    ∷ kernel_step 0 (Touch 257 Write) (Ok (Serves 257 259 rw false 0)) None
    ∷ kernel_step 0 (Seal 1052672 16384 0) (Err 12) (Some (plain 257 259 rw ∷ plain 34359705594 34359705597 rw ∷ plain 34359705597 34359705600 r ∷ []))
    ∷ kernel_step 0 (Protect 1056768 4096 rw) (Ok (Returned 0)) (Some (plain 257 259 rw ∷ plain 34359705594 34359705597 rw ∷ plain 34359705597 34359705600 r ∷ []))
    ∷ kernel_step 0 (Map 1069056 4096 rw 50 (negsuc 0) 0) (Ok (Returned 1069056)) (Some (plain 257 259 rw ∷ plain 261 262 rw ∷ plain 34359705594 34359705597 rw ∷ plain 34359705597 34359705600 r ∷ []))
    ∷ kernel_step 0 (Map 1110016 8192 rw 34 (negsuc 0) 0) (Ok (Returned 1110016)) (Some (plain 257 259 rw ∷ plain 261 262 rw ∷ plain 271 273 rw ∷ plain 34359705594 34359705597 rw ∷ plain 34359705597 34359705600 r ∷ []))
    ∷ kernel_step 0 (Remap 1052672 8192 8192 5 0) (Ok (Returned 140737354104832)) (Some (plain 257 259 rw ∷ plain 261 262 rw ∷ plain 271 273 rw ∷ plain 34359705592 34359705594 rw ∷ plain 34359705594 34359705597 rw ∷ plain 34359705597 34359705600 r ∷ []))
    ∷ kernel_step 0 (Protect 1069056 4096 rw) (Ok (Returned 0)) (Some (plain 257 259 rw ∷ plain 261 262 rw ∷ plain 271 273 rw ∷ plain 34359705592 34359705594 rw ∷ plain 34359705594 34359705597 rw ∷ plain 34359705597 34359705600 r ∷ []))
    ∷ kernel_step 0 (Touch 257 Write) (Ok (Serves 257 259 rw false 0)) None
    ∷ kernel_step 0 (Touch 258 Write) (Ok (Serves 257 259 rw false 0)) None
    ∷ kernel_step 0 (Protect 1060864 20480 rw) (Err 12) (Some (plain 257 259 rw ∷ plain 261 262 rw ∷ plain 271 273 rw ∷ plain 34359705592 34359705594 rw ∷ plain 34359705594 34359705597 rw ∷ plain 34359705597 34359705600 r ∷ []))
    ∷ kernel_step 0 (Protect 1052672 8192 r) (Ok (Returned 0)) (Some (plain 257 259 r ∷ plain 261 262 rw ∷ plain 271 273 rw ∷ plain 34359705592 34359705594 rw ∷ plain 34359705594 34359705597 rw ∷ plain 34359705597 34359705600 r ∷ []))
    ∷ kernel_step 0 (Protect 1069056 8192 rw) (Err 12) (Some (plain 257 259 r ∷ plain 261 262 rw ∷ plain 271 273 rw ∷ plain 34359705592 34359705594 rw ∷ plain 34359705594 34359705597 rw ∷ plain 34359705597 34359705600 r ∷ []))
    ∷ kernel_step 0 (Map 1073152 16384 rw 50 (negsuc 0) 0) (Ok (Returned 1073152)) (Some (plain 257 259 r ∷ plain 261 266 rw ∷ plain 271 273 rw ∷ plain 34359705592 34359705594 rw ∷ plain 34359705594 34359705597 rw ∷ plain 34359705597 34359705600 r ∷ []))
    ∷ kernel_step 0 (Map 0 4096 rw 34 (negsuc 0) 0) (Ok (Returned 140737354100736)) (Some (plain 257 259 r ∷ plain 261 266 rw ∷ plain 271 273 rw ∷ plain 34359705591 34359705592 rw ∷ plain 34359705592 34359705594 rw ∷ plain 34359705594 34359705597 rw ∷ plain 34359705597 34359705600 r ∷ []))
    ∷ kernel_step 0 (Map 0 16384 rw 1 (pos 4) 0) (Ok (Returned 140737354084352)) (Some (plain 257 259 r ∷ plain 261 266 rw ∷ plain 271 273 rw ∷ filed 34359705587 34359705591 rw true 0 2 ∷ plain 34359705591 34359705592 rw ∷ plain 34359705592 34359705594 rw ∷ plain 34359705594 34359705597 rw ∷ plain 34359705597 34359705600 r ∷ []))
    ∷ kernel_step 0 (Remap 1110016 16384 16384 3 1126400) (Ok (Returned 1126400)) (Some (plain 257 259 r ∷ plain 261 266 rw ∷ plain 275 277 rw ∷ filed 34359705587 34359705591 rw true 0 2 ∷ plain 34359705591 34359705592 rw ∷ plain 34359705592 34359705594 rw ∷ plain 34359705594 34359705597 rw ∷ plain 34359705597 34359705600 r ∷ []))
    ∷ kernel_step 0 (Touch 265 Write) (Ok (Serves 261 266 rw false 0)) (Some (plain 257 259 r ∷ plain 261 266 rw ∷ plain 275 277 rw ∷ filed 34359705587 34359705591 rw true 0 2 ∷ plain 34359705591 34359705592 rw ∷ plain 34359705592 34359705594 rw ∷ plain 34359705594 34359705597 rw ∷ plain 34359705597 34359705600 r ∷ []))
    ∷ []

-- written_217: the kernel
abbrev pub written_217_on : Kernel
written_217_on = record { rules = linux_6_17; machine = record { lowest_built = 16; memory = 245000; stack = 8388608; has_keys = true; huge_always = true; files_are_huge = false; vsyscall = Xonly }; config = config 4096 140737354133504 65530 0 (file_row 3 false true 5000 ∷ file_row 4 true false 0 ∷ []) }

-- written_217: its answers
abbrev pub written_217 : List Step
written_217 =
    kernel_step 0 (Map 1064960 12288 rw 306 (negsuc 0) 0) (Ok (Returned 1064960)) (Some (plain 260 263 rw ∷ []))
    ∷ kernel_step 0 (Map 1052672 16384 rwx 306 (negsuc 0) 0) (Ok (Returned 1052672)) (Some (plain 257 261 rwx ∷ plain 261 263 rw ∷ []))
    ∷ kernel_step 0 (Touch 257 Read) (Ok (Serves 257 261 rwx false 0)) None
    ∷ kernel_step 0 (Protect 1069056 8192 rw) (Ok (Returned 0)) (Some (plain 257 261 rwx ∷ plain 261 263 rw ∷ []))
    ∷ kernel_step 0 (Touch 261 Write) (Ok (Serves 261 263 rw false 0)) None
    ∷ kernel_step 0 (Remap 1052672 4096 4096 3 1572864) (Ok (Returned 1572864)) (Some (plain 258 261 rwx ∷ plain 261 263 rw ∷ plain 384 385 rwx ∷ []))
    ∷ kernel_step 0 (Remap 1572864 4096 4096 3 1052672) (Ok (Returned 1052672)) (Some (plain 257 261 rwx ∷ plain 261 263 rw ∷ []))
    ∷ kernel_step 0 (Touch 256 Read) (Ok (Serves 256 261 rwx false 0)) None
    ∷ kernel_step 0 (Protect 1064960 16384 rwx) (Err 12) (Some (plain 256 263 rwx ∷ []))
    ∷ kernel_step 0 (Touch 251 Write) (Ok (Serves 251 263 rwx false 0)) None
    ∷ kernel_step 0 (Touch 1 Write) (Ok (Signal MapErr)) None
    ∷ kernel_step 0 (Remap 1040384 53248 61440 1 0) (Err 14) (Some (plain 251 263 rwx ∷ []))
    ∷ kernel_step 0 (Map 1052672 12288 rwx 50 (negsuc 0) 0) (Ok (Returned 1052672)) (Some (plain 251 257 rwx ∷ plain 257 260 rwx ∷ plain 260 263 rwx ∷ []))
    ∷ kernel_step 0 (Protect 1036288 16384 rw) (Ok (Returned 0)) (Some (plain 251 253 rwx ∷ plain 253 257 rw ∷ plain 257 260 rwx ∷ plain 260 263 rwx ∷ []))
    ∷ kernel_step 0 (Touch 257 Write) (Ok (Serves 257 260 rwx false 0)) None
    ∷ kernel_step 0 (Touch 262 Write) (Ok (Serves 260 263 rwx false 0)) None
    ∷ kernel_step 0 (Map 1048576 4096 rwx 50 (negsuc 0) 0) (Ok (Returned 1048576)) (Some (plain 251 253 rwx ∷ plain 253 256 rw ∷ plain 256 260 rwx ∷ plain 260 263 rwx ∷ []))
    ∷ kernel_step 0 (Remap 1052672 16384 16384 3 1605632) (Ok (Returned 1605632)) (Some (plain 251 253 rwx ∷ plain 253 256 rw ∷ plain 256 257 rwx ∷ plain 261 263 rwx ∷ plain 392 395 rwx ∷ plain 395 396 rwx ∷ []))
    ∷ kernel_step 0 (Remap 1056768 4096 4096 3 1605632) (Err 14) (Some (plain 251 253 rwx ∷ plain 253 256 rw ∷ plain 256 257 rwx ∷ plain 261 263 rwx ∷ plain 392 395 rwx ∷ plain 395 396 rwx ∷ []))
    ∷ kernel_step 0 (Protect 1032192 4096 r) (Ok (Returned 0)) (Some (plain 251 252 rwx ∷ plain 252 253 r ∷ plain 253 256 rw ∷ plain 256 257 rwx ∷ plain 261 263 rwx ∷ plain 392 395 rwx ∷ plain 395 396 rwx ∷ []))
    ∷ kernel_step 0 (Protect 1040384 12288 rw) (Ok (Returned 0)) (Some (plain 251 252 rwx ∷ plain 252 253 r ∷ plain 253 256 rw ∷ plain 256 257 rw ∷ plain 261 263 rwx ∷ plain 392 395 rwx ∷ plain 395 396 rwx ∷ []))
    ∷ kernel_step 0 (Remap 1060864 4096 4096 3 536870912) (Err 14) (Some (plain 251 252 rwx ∷ plain 252 253 r ∷ plain 253 256 rw ∷ plain 256 257 rw ∷ plain 261 263 rwx ∷ plain 392 395 rwx ∷ plain 395 396 rwx ∷ []))
    ∷ kernel_step 0 (Touch 251 Write) (Ok (Serves 251 252 rwx false 0)) None
    ∷ kernel_step 0 (Protect 1052672 16384 rw) (Err 12) (Some (plain 251 252 rwx ∷ plain 252 253 r ∷ plain 253 256 rw ∷ plain 256 257 rw ∷ plain 261 263 rwx ∷ plain 392 395 rwx ∷ plain 395 396 rwx ∷ []))
    ∷ kernel_step 0 (Map 1048576 12288 rw 306 (negsuc 0) 0) (Ok (Returned 1048576)) (Some (plain 251 252 rwx ∷ plain 252 253 r ∷ plain 253 259 rw ∷ plain 261 263 rwx ∷ plain 392 395 rwx ∷ plain 395 396 rwx ∷ []))
    ∷ kernel_step 0 (Map 1064960 8192 r 50 (negsuc 0) 0) (Ok (Returned 1064960)) (Some (plain 251 252 rwx ∷ plain 252 253 r ∷ plain 253 259 rw ∷ plain 260 262 r ∷ plain 262 263 rwx ∷ plain 392 395 rwx ∷ plain 395 396 rwx ∷ []))
    ∷ kernel_step 0 (Map 1056768 12288 r 306 (negsuc 0) 0) (Ok (Returned 1056768)) (Some (plain 251 252 rwx ∷ plain 252 253 r ∷ plain 253 258 rw ∷ plain 258 261 r ∷ plain 261 262 r ∷ plain 262 263 rwx ∷ plain 392 395 rwx ∷ plain 395 396 rwx ∷ []))
    ∷ kernel_step 0 (Touch 250 Write) (Ok (Serves 250 252 rwx false 0)) None
    ∷ kernel_step 0 (Protect 1064960 4096 rwx) (Ok (Returned 0)) (Some (plain 250 252 rwx ∷ plain 252 253 r ∷ plain 253 258 rw ∷ plain 258 260 r ∷ plain 260 261 rwx ∷ plain 261 262 r ∷ plain 262 263 rwx ∷ plain 392 395 rwx ∷ plain 395 396 rwx ∷ []))
    ∷ kernel_step 0 (Protect 1056768 12288 r) (Ok (Returned 0)) (Some (plain 250 252 rwx ∷ plain 252 253 r ∷ plain 253 258 rw ∷ plain 258 261 r ∷ plain 261 262 r ∷ plain 262 263 rwx ∷ plain 392 395 rwx ∷ plain 395 396 rwx ∷ []))
    ∷ []

-- written_222: the kernel
abbrev pub written_222_on : Kernel
written_222_on = record { rules = linux_6_17; machine = record { lowest_built = 16; memory = 245000; stack = 8388608; has_keys = true; huge_always = true; files_are_huge = false; vsyscall = Xonly }; config = config 4096 140737354133504 65530 0 (file_row 3 true true 5000 ∷ file_row 4 true false 5000 ∷ file_row 5 true true 20000 ∷ []) }

-- written_222: its answers
abbrev pub written_222 : List Step
written_222 =
    kernel_step 0 (Map 1052672 4096 r 50 (negsuc 0) 0) (Ok (Returned 1052672)) (Some (plain 257 258 r ∷ []))
    ∷ kernel_step 0 (Map 1048576 34359758848 r 49 (negsuc 0) 0) (Err 12) (Some ([]))
    ∷ kernel_step 0 (Touch 262 Read) (Ok (Signal MapErr)) None
    ∷ kernel_step 0 (Map 1064960 16384 r 50 (negsuc 0) 0) (Ok (Returned 1064960)) (Some (plain 260 264 r ∷ []))
    ∷ kernel_step 0 (Protect 1064960 4096 rw) (Ok (Returned 0)) (Some (plain 260 261 rw ∷ plain 261 264 r ∷ []))
    ∷ kernel_step 0 (Protect 1064960 4096 r) (Ok (Returned 0)) (Some (plain 260 264 r ∷ []))
    ∷ kernel_step 0 (Touch 260 Write) (Ok (Signal AccErr)) None
    ∷ kernel_step 0 (Remap 1064960 4096 12288 3 1052672) (Ok (Returned 1052672)) (Some (plain 257 260 r ∷ plain 261 264 r ∷ []))
    ∷ kernel_step 0 (Protect 1064960 16384 r) (Err 12) (Some (plain 257 260 r ∷ plain 261 264 r ∷ []))
    ∷ kernel_step 0 (Map 1048576 8192 rw 50 (negsuc 0) 0) (Ok (Returned 1048576)) (Some (plain 256 258 rw ∷ plain 258 260 r ∷ plain 261 264 r ∷ []))
    ∷ kernel_step 0 (Touch 256 Read) (Ok (Serves 256 258 rw false 0)) None
    ∷ kernel_step 0 (Protect 1048576 8192 r) (Ok (Returned 0)) (Some (plain 256 260 r ∷ plain 261 264 r ∷ []))
    ∷ kernel_step 0 (Protect 1048576 16384 r) (Ok (Returned 0)) (Some (plain 256 260 r ∷ plain 261 264 r ∷ []))
    ∷ kernel_step 0 (Remap 1052672 12288 12288 3 1064960) (Ok (Returned 1064960)) (Some (plain 256 257 r ∷ plain 260 264 r ∷ []))
    ∷ kernel_step 0 (Map 1048576 17179869184 r 49 (negsuc 0) 0) (Err 12) (Some ([]))
    ∷ kernel_step 0 (Touch 257 Write) (Ok (Signal MapErr)) None
    ∷ kernel_step 0 (Protect 1060864 12288 r) (Err 12) (Some ([]))
    ∷ kernel_step 0 (Touch 262 Write) (Ok (Signal MapErr)) None
    ∷ kernel_step 0 (Map 1060864 34359758848 r 49 (negsuc 0) 0) (Err 12) (Some ([]))
    ∷ kernel_step 0 (Touch 261 Read) (Ok (Signal MapErr)) None
    ∷ kernel_step 0 (Touch 259 Read) (Ok (Signal MapErr)) None
    ∷ kernel_step 0 (Touch 258 Write) (Ok (Signal MapErr)) None
    ∷ kernel_step 0 (Map 1060864 8192 r 16434 (negsuc 0) 0) (Ok (Returned 1060864)) (Some (plain 259 261 r ∷ []))
    ∷ kernel_step 0 (Remap 1056768 20480 20480 3 1060864) (Err 22) (Some (plain 259 261 r ∷ []))
    ∷ kernel_step 0 (Protect 1052672 8192 r) (Err 12) (Some (plain 259 261 r ∷ []))
    ∷ kernel_step 0 (Protect 1056768 8192 r) (Err 12) (Some (plain 259 261 r ∷ []))
    ∷ kernel_step 0 (Remap 1069056 8192 8192 3 1056768) (Err 14) (Some (plain 259 261 r ∷ []))
    ∷ kernel_step 0 (Protect 1064960 4096 r) (Ok (Returned 0)) (Some (plain 259 261 r ∷ []))
    ∷ kernel_step 0 (Protect 1060864 8192 r) (Ok (Returned 0)) (Some (plain 259 261 r ∷ []))
    ∷ kernel_step 0 (Unmap 1060864 8192) (Ok (Returned 0)) (Some ([]))
    ∷ []

-- hard_limit_237: the kernel
abbrev pub hard_limit_237_on : Kernel
hard_limit_237_on = record { rules = linux_6_17; machine = record { lowest_built = 16; memory = 245000; stack = 8388608; has_keys = true; huge_always = true; files_are_huge = false; vsyscall = Xonly }; config = config 4096 140737354133504 10 1077248 ([]) }

-- hard_limit_237: its answers
abbrev pub hard_limit_237 : List Step
hard_limit_237 =
    kernel_step 0 (Map 1114112 16384 r 50 (negsuc 0) 0) (Ok (Returned 1114112)) (Some (plain 272 276 r ∷ []))
    ∷ kernel_step 0 (Map 1130496 4096 rw 50 (negsuc 0) 0) (Ok (Returned 1130496)) (Some (plain 272 276 r ∷ plain 276 277 rw ∷ []))
    ∷ kernel_step 0 (Map 1101824 12288 rw 131122 (negsuc 0) 0) (Ok (Returned 1101824)) (Some (plain 269 272 rw ∷ plain 272 276 r ∷ plain 276 277 rw ∷ []))
    ∷ kernel_step 0 (Touch 274 Write) (Ok (Signal AccErr)) None
    ∷ kernel_step 0 (Touch 275 Read) (Ok (Serves 272 276 r false 0)) None
    ∷ kernel_step 0 (Map 1130496 16384 r 50 (negsuc 0) 0) (Ok (Returned 1130496)) (Some (plain 269 272 rw ∷ plain 272 280 r ∷ []))
    ∷ kernel_step 0 (Touch 270 Write) (Ok (Serves 269 272 rw false 0)) None
    ∷ kernel_step 0 (Touch 263 Write) (Ok (Signal MapErr)) None
    ∷ kernel_step 0 (Break 1085448) (Ok (Returned 1085448)) (Some (heap 263 266 rw ∷ plain 269 272 rw ∷ plain 272 280 r ∷ []))
    ∷ kernel_step 0 (Touch 271 Write) (Ok (Serves 269 272 rw false 0)) None
    ∷ kernel_step 0 (Touch 275 Exec) (Ok (Signal AccErr)) None
    ∷ kernel_step 0 (Map 1093632 12288 r 1048610 (negsuc 0) 0) (Err 17) (Some (heap 263 266 rw ∷ plain 269 272 rw ∷ plain 272 280 r ∷ []))
    ∷ kernel_step 0 (Touch 264 Write) (Ok (Serves 263 266 rw false 0)) None
    ∷ kernel_step 0 (Remap 1077248 12288 12288 5 0) (Ok (Returned 140737354121216)) (Some (heap 263 266 rw ∷ plain 269 272 rw ∷ plain 272 280 r ∷ plain 34359705596 34359705599 rw ∷ []))
    ∷ kernel_step 0 (Remap 1077248 24576 24576 3 1052672) (Ok (Returned 1052672)) (Some (plain 257 260 rw ∷ plain 269 272 rw ∷ plain 272 280 r ∷ plain 34359705596 34359705599 rw ∷ []))
    ∷ kernel_step 0 (Touch 259 Exec) (Ok (Signal AccErr)) None
    ∷ kernel_step 0 (Remap 1110016 20480 16384 0 0) (Ok (Returned 1110016)) (Some (plain 257 260 rw ∷ plain 269 272 rw ∷ plain 272 275 r ∷ plain 276 280 r ∷ plain 34359705596 34359705599 rw ∷ []))
    ∷ kernel_step 0 (Map 1105920 16384 rw 50 (negsuc 0) 0) (Ok (Returned 1105920)) (Some (plain 257 260 rw ∷ plain 269 270 rw ∷ plain 270 274 rw ∷ plain 274 275 r ∷ plain 276 280 r ∷ plain 34359705596 34359705599 rw ∷ []))
    ∷ kernel_step 0 (Break 1093632) (Ok (Returned 1093632)) (Some (plain 257 260 rw ∷ heap 266 267 rw ∷ plain 269 270 rw ∷ plain 270 274 rw ∷ plain 274 275 r ∷ plain 276 280 r ∷ plain 34359705596 34359705599 rw ∷ []))
    ∷ kernel_step 0 (Protect 1089536 12288 rw) (Err 12) (Some (plain 257 260 rw ∷ heap 266 267 rw ∷ plain 269 270 rw ∷ plain 270 274 rw ∷ plain 274 275 r ∷ plain 276 280 r ∷ plain 34359705596 34359705599 rw ∷ []))
    ∷ kernel_step 0 (Map 140737354133504 4096 r 50 (negsuc 0) 0) (Ok (Returned 140737354133504)) (Some (plain 257 260 rw ∷ heap 266 267 rw ∷ plain 269 270 rw ∷ plain 270 274 rw ∷ plain 274 275 r ∷ plain 276 280 r ∷ plain 34359705596 34359705599 rw ∷ plain 34359705599 34359705600 r ∷ []))
    ∷ kernel_step 0 (Remap 1110016 8192 8192 3 1060864) (Err 12) (Some (plain 257 260 rw ∷ heap 266 267 rw ∷ plain 269 270 rw ∷ plain 270 274 rw ∷ plain 274 275 r ∷ plain 276 280 r ∷ plain 34359705596 34359705599 rw ∷ plain 34359705599 34359705600 r ∷ []))
    ∷ kernel_step 0 (Map 140737354113024 8192 rw 32818 (negsuc 0) 0) (Ok (Returned 140737354113024)) (Some (plain 257 260 rw ∷ heap 266 267 rw ∷ plain 269 270 rw ∷ plain 270 274 rw ∷ plain 274 275 r ∷ plain 276 280 r ∷ plain 34359705594 34359705596 rw ∷ plain 34359705596 34359705599 rw ∷ plain 34359705599 34359705600 r ∷ []))
    ∷ kernel_step 0 (Protect 1089536 4096 r) (Ok (Returned 0)) (Some (plain 257 260 rw ∷ heap 266 267 r ∷ plain 269 270 rw ∷ plain 270 274 rw ∷ plain 274 275 r ∷ plain 276 280 r ∷ plain 34359705594 34359705596 rw ∷ plain 34359705596 34359705599 rw ∷ plain 34359705599 34359705600 r ∷ []))
    ∷ kernel_step 0 (Break 1097736) (Ok (Returned 1093632)) (Some (plain 257 260 rw ∷ heap 266 267 r ∷ plain 269 270 rw ∷ plain 270 274 rw ∷ plain 274 275 r ∷ plain 276 280 r ∷ plain 34359705594 34359705596 rw ∷ plain 34359705596 34359705599 rw ∷ plain 34359705599 34359705600 r ∷ []))
    ∷ kernel_step 0 (Remap 1122304 4096 4096 1 0) (Ok (Returned 1122304)) (Some (plain 257 260 rw ∷ heap 266 267 r ∷ plain 269 270 rw ∷ plain 270 274 rw ∷ plain 274 275 r ∷ plain 276 280 r ∷ plain 34359705594 34359705596 rw ∷ plain 34359705596 34359705599 rw ∷ plain 34359705599 34359705600 r ∷ []))
    ∷ kernel_step 0 (Protect 1101824 4096 rw) (Ok (Returned 0)) (Some (plain 257 260 rw ∷ heap 266 267 r ∷ plain 269 270 rw ∷ plain 270 274 rw ∷ plain 274 275 r ∷ plain 276 280 r ∷ plain 34359705594 34359705596 rw ∷ plain 34359705596 34359705599 rw ∷ plain 34359705599 34359705600 r ∷ []))
    ∷ kernel_step 0 (Remap 1052672 12288 20480 1 0) (Ok (Returned 1052672)) (Some (plain 257 262 rw ∷ heap 266 267 r ∷ plain 269 270 rw ∷ plain 270 274 rw ∷ plain 274 275 r ∷ plain 276 280 r ∷ plain 34359705594 34359705596 rw ∷ plain 34359705596 34359705599 rw ∷ plain 34359705599 34359705600 r ∷ []))
    ∷ kernel_step 0 (Break 1089536) (Ok (Returned 1089536)) (Some (plain 257 262 rw ∷ plain 269 270 rw ∷ plain 270 274 rw ∷ plain 274 275 r ∷ plain 276 280 r ∷ plain 34359705594 34359705596 rw ∷ plain 34359705596 34359705599 rw ∷ plain 34359705599 34359705600 r ∷ []))
    ∷ kernel_step 0 (Touch 270 Read) (Ok (Serves 270 274 rw false 0)) (Some (plain 257 262 rw ∷ plain 269 270 rw ∷ plain 270 274 rw ∷ plain 274 275 r ∷ plain 276 280 r ∷ plain 34359705594 34359705596 rw ∷ plain 34359705596 34359705599 rw ∷ plain 34359705599 34359705600 r ∷ []))
    ∷ []

-- hard_240: the kernel
abbrev pub hard_240_on : Kernel
hard_240_on = record { rules = linux_6_17; machine = record { lowest_built = 16; memory = 245000; stack = 8388608; has_keys = true; huge_always = true; files_are_huge = false; vsyscall = Xonly }; config = config 4096 140737354133504 65530 0 (file_row 3 true true 90000 ∷ file_row 4 true true 5000 ∷ file_row 5 true true 0 ∷ []) }

-- hard_240: its answers
abbrev pub hard_240 : List Step
hard_240 =
    kernel_step 0 (Map 1089536 4096 rw 50 (negsuc 0) 0) (Ok (Returned 1089536)) (Some (plain 266 267 rw ∷ []))
    ∷ kernel_step 0 (Map 1081344 8192 rw 50 (negsuc 0) 0) (Ok (Returned 1081344)) (Some (plain 264 267 rw ∷ []))
    ∷ kernel_step 0 (Map 1073152 8192 rw 18 (pos 3) 0) (Ok (Returned 1073152)) (Some (filed 262 264 rw false 0 1 ∷ plain 264 267 rw ∷ []))
    ∷ kernel_step 0 (Map 1048576 12288 rw 50 (negsuc 0) 0) (Ok (Returned 1048576)) (Some (plain 256 259 rw ∷ filed 262 264 rw false 0 1 ∷ plain 264 267 rw ∷ []))
    ∷ kernel_step 0 (Protect 1089536 16384 rw) (Err 12) (Some (plain 256 259 rw ∷ filed 262 264 rw false 0 1 ∷ plain 264 267 rw ∷ []))
    ∷ kernel_step 0 (Unmap 1048576 28672) (Ok (Returned 0)) (Some (filed 263 264 rw false 4096 1 ∷ plain 264 267 rw ∷ []))
    ∷ kernel_step 0 (Remap 1081344 4096 4096 3 1069056) (Ok (Returned 1069056)) (Some (plain 261 262 rw ∷ filed 263 264 rw false 4096 1 ∷ plain 265 267 rw ∷ []))
    ∷ kernel_step 0 (Touch 261 Read) (Ok (Serves 261 262 rw false 0)) None
    ∷ kernel_step 0 (Remap 1077248 4096 8192 1 0) (Ok (Returned 1077248)) (Some (plain 261 262 rw ∷ filed 263 265 rw false 4096 1 ∷ plain 265 267 rw ∷ []))
    ∷ kernel_step 0 (Map 1085440 16384 rw 18 (pos 3) 12288) (Ok (Returned 1085440)) (Some (plain 261 262 rw ∷ filed 263 269 rw false 4096 1 ∷ []))
    ∷ kernel_step 0 (Remap 1069056 4096 8192 3 1060864) (Ok (Returned 1060864)) (Some (plain 259 261 rw ∷ filed 263 269 rw false 4096 1 ∷ []))
    ∷ kernel_step 0 (Touch 259 Write) (Ok (Serves 259 261 rw false 0)) None
    ∷ kernel_step 0 (Unmap 1060864 4096) (Ok (Returned 0)) (Some (plain 260 261 rw ∷ filed 263 269 rw false 4096 1 ∷ []))
    ∷ kernel_step 0 (Unmap 1064960 4096) (Ok (Returned 0)) (Some (filed 263 269 rw false 4096 1 ∷ []))
    ∷ kernel_step 0 (Map 1081344 4096 rw 17 (pos 3) 8192) (Ok (Returned 1081344)) (Some (filed 263 264 rw false 4096 1 ∷ filed 264 265 rw true 8192 1 ∷ filed 265 269 rw false 12288 1 ∷ []))
    ∷ kernel_step 0 (Touch 268 Write) (Ok (Serves 265 269 rw false 6)) None
    ∷ kernel_step 0 (Remap 1077248 4096 4096 7 1081344) (Ok (Returned 1081344)) (Some (filed 263 264 rw false 4096 1 ∷ filed 264 265 rw false 4096 1 ∷ filed 265 269 rw false 12288 1 ∷ []))
    ∷ kernel_step 0 (Map 1064960 16384 rw 16434 (negsuc 0) 0) (Ok (Returned 1064960)) (Some (plain 260 264 rw ∷ filed 264 265 rw false 4096 1 ∷ filed 265 269 rw false 12288 1 ∷ []))
    ∷ kernel_step 0 (Touch 265 Write) (Ok (Serves 265 269 rw false 3)) None
    ∷ kernel_step 0 (Map 1081344 16384 rw 131121 (negsuc 0) 0) (Ok (Returned 1081344)) (Some (plain 260 264 rw ∷ filed 264 268 rw true 0 4 ∷ filed 268 269 rw false 24576 1 ∷ []))
    ∷ kernel_step 0 (Protect 1097728 4096 r) (Ok (Returned 0)) (Some (plain 260 264 rw ∷ filed 264 268 rw true 0 4 ∷ filed 268 269 r false 24576 1 ∷ []))
    ∷ kernel_step 0 (Map 1105920 4096 r 19 (pos 5) 8192) (Ok (Returned 1105920)) (Some (plain 260 264 rw ∷ filed 264 268 rw true 0 4 ∷ filed 268 269 r false 24576 1 ∷ filed 270 271 r true 8192 3 ∷ []))
    ∷ kernel_step 0 (Touch 261 Write) (Ok (Serves 260 264 rw false 0)) None
    ∷ kernel_step 0 (Protect 1069056 4096 rw) (Ok (Returned 0)) (Some (plain 260 264 rw ∷ filed 264 268 rw true 0 4 ∷ filed 268 269 r false 24576 1 ∷ filed 270 271 r true 8192 3 ∷ []))
    ∷ kernel_step 0 (Map 1081344 4096 r 17 (pos 4) 8192) (Ok (Returned 1081344)) (Some (plain 260 264 rw ∷ filed 264 265 r true 8192 2 ∷ filed 265 268 rw true 4096 4 ∷ filed 268 269 r false 24576 1 ∷ filed 270 271 r true 8192 3 ∷ []))
    ∷ kernel_step 0 (Remap 1064960 20480 20480 7 1110016) (Ok (Returned 1110016)) (Some (plain 260 264 rw ∷ filed 264 265 r true 8192 2 ∷ filed 265 268 rw true 4096 4 ∷ filed 268 269 r false 24576 1 ∷ filed 270 271 r true 8192 3 ∷ plain 271 275 rw ∷ filed 275 276 r true 8192 2 ∷ []))
    ∷ kernel_step 0 (Remap 1085440 4096 4096 1 0) (Ok (Returned 1085440)) (Some (plain 260 264 rw ∷ filed 264 265 r true 8192 2 ∷ filed 265 268 rw true 4096 4 ∷ filed 268 269 r false 24576 1 ∷ filed 270 271 r true 8192 3 ∷ plain 271 275 rw ∷ filed 275 276 r true 8192 2 ∷ []))
    ∷ kernel_step 0 (Map 1081344 16384 rw 16418 (negsuc 0) 0) (Ok (Returned 140737354117120)) (Some (plain 260 264 rw ∷ filed 264 265 r true 8192 2 ∷ filed 265 268 rw true 4096 4 ∷ filed 268 269 r false 24576 1 ∷ filed 270 271 r true 8192 3 ∷ plain 271 275 rw ∷ filed 275 276 r true 8192 2 ∷ plain 34359705595 34359705599 rw ∷ []))
    ∷ kernel_step 0 (Remap 1081344 4096 4096 7 1073152) (Ok (Returned 1073152)) (Some (plain 260 262 rw ∷ filed 262 263 r true 8192 2 ∷ plain 263 264 rw ∷ filed 264 265 r true 8192 2 ∷ filed 265 268 rw true 4096 4 ∷ filed 268 269 r false 24576 1 ∷ filed 270 271 r true 8192 3 ∷ plain 271 275 rw ∷ filed 275 276 r true 8192 2 ∷ plain 34359705595 34359705599 rw ∷ []))
    ∷ kernel_step 0 (Protect 1097728 4096 r) (Ok (Returned 0)) (Some (plain 260 262 rw ∷ filed 262 263 r true 8192 2 ∷ plain 263 264 rw ∷ filed 264 265 r true 8192 2 ∷ filed 265 268 rw true 4096 4 ∷ filed 268 269 r false 24576 1 ∷ filed 270 271 r true 8192 3 ∷ plain 271 275 rw ∷ filed 275 276 r true 8192 2 ∷ plain 34359705595 34359705599 rw ∷ []))
    ∷ []

-- hard_243: the kernel
abbrev pub hard_243_on : Kernel
hard_243_on = record { rules = linux_6_17; machine = record { lowest_built = 16; memory = 245000; stack = 8388608; has_keys = true; huge_always = true; files_are_huge = false; vsyscall = Xonly }; config = config 4096 140737354133504 65530 0 (file_row 3 true true 5000 ∷ file_row 4 true true 5000 ∷ []) }

-- hard_243: its answers
abbrev pub hard_243 : List Step
hard_243 =
    kernel_step 0 (Map 1056768 12288 rx 50 (negsuc 0) 0) (Ok (Returned 1056768)) (Some (plain 258 261 rx ∷ []))
    ∷ kernel_step 0 (Map 1052672 8192 rw 18 (pos 3) 12288) (Ok (Returned 1052672)) (Some (filed 257 259 rw false 12288 1 ∷ plain 259 261 rx ∷ []))
    ∷ kernel_step 0 (Remap 1064960 4096 4096 7 1060864) (Ok (Returned 1060864)) (Some (filed 257 259 rw false 12288 1 ∷ plain 259 261 rx ∷ []))
    ∷ kernel_step 0 (Remap 1060864 4096 4096 3 1048576) (Ok (Returned 1048576)) (Some (plain 256 257 rx ∷ filed 257 259 rw false 12288 1 ∷ plain 260 261 rx ∷ []))
    ∷ kernel_step 0 (Remap 1052672 0 4096 0 0) (Err 22) (Some (plain 256 257 rx ∷ filed 257 259 rw false 12288 1 ∷ plain 260 261 rx ∷ []))
    ∷ kernel_step 0 (Remap 1052672 8192 8192 3 1040384) (Ok (Returned 1040384)) (Some (filed 254 256 rw false 12288 1 ∷ plain 256 257 rx ∷ plain 260 261 rx ∷ []))
    ∷ kernel_step 0 (Map 1048576 4096 r 50 (negsuc 0) 0) (Ok (Returned 1048576)) (Some (filed 254 256 rw false 12288 1 ∷ plain 256 257 r ∷ plain 260 261 rx ∷ []))
    ∷ kernel_step 0 (Unmap 1044480 4096) (Ok (Returned 0)) (Some (filed 254 255 rw false 12288 1 ∷ plain 256 257 r ∷ plain 260 261 rx ∷ []))
    ∷ kernel_step 0 (Touch 262 Write) (Ok (Signal MapErr)) None
    ∷ kernel_step 0 (Map 1110016 12288 r 17 (pos 3) 8192) (Ok (Returned 1110016)) (Some (filed 254 255 rw false 12288 1 ∷ plain 256 257 r ∷ plain 260 261 rx ∷ filed 271 274 r true 8192 1 ∷ []))
    ∷ kernel_step 0 (Map 1101824 16384 r 50 (negsuc 0) 0) (Ok (Returned 1101824)) (Some (filed 254 255 rw false 12288 1 ∷ plain 256 257 r ∷ plain 260 261 rx ∷ plain 269 273 r ∷ filed 273 274 r true 16384 1 ∷ []))
    ∷ kernel_step 0 (Map 1093632 8192 x 273 (pos 4) 8192) (Err 22) (Some (filed 254 255 rw false 12288 1 ∷ plain 256 257 r ∷ plain 260 261 rx ∷ plain 269 273 r ∷ filed 273 274 r true 16384 1 ∷ []))
    ∷ kernel_step 0 (Remap 1114112 4096 8192 1 0) (Ok (Returned 140737354125312)) (Some (filed 254 255 rw false 12288 1 ∷ plain 256 257 r ∷ plain 260 261 rx ∷ plain 269 272 r ∷ filed 273 274 r true 16384 1 ∷ plain 34359705597 34359705599 r ∷ []))
    ∷ kernel_step 0 (Map 1028096 12288 rw 18 (pos 3) 0) (Ok (Returned 1028096)) (Some (filed 251 255 rw false 0 1 ∷ plain 256 257 r ∷ plain 260 261 rx ∷ plain 269 272 r ∷ filed 273 274 r true 16384 1 ∷ plain 34359705597 34359705599 r ∷ []))
    ∷ kernel_step 0 (Remap 1048576 20480 16384 1 0) (Ok (Returned 1048576)) (Some (filed 251 255 rw false 0 1 ∷ plain 256 257 r ∷ plain 269 272 r ∷ filed 273 274 r true 16384 1 ∷ plain 34359705597 34359705599 r ∷ []))
    ∷ kernel_step 0 (Touch 266 Write) (Ok (Signal MapErr)) None
    ∷ kernel_step 0 (Remap 1048576 57344 57344 3 1118208) (Ok (Returned 1118208)) (Some (filed 251 255 rw false 0 1 ∷ plain 270 272 r ∷ plain 273 274 r ∷ plain 286 287 r ∷ plain 34359705597 34359705599 r ∷ []))
    ∷ kernel_step 0 (Remap 1101824 0 4096 3 1097728) (Err 14) (Some (filed 251 255 rw false 0 1 ∷ plain 270 272 r ∷ plain 273 274 r ∷ plain 286 287 r ∷ plain 34359705597 34359705599 r ∷ []))
    ∷ kernel_step 0 (Touch 251 Read) (Ok (Serves 251 255 rw false 0)) None
    ∷ kernel_step 0 (Map 1056768 12288 w 32802 (negsuc 0) 0) (Ok (Returned 1056768)) (Some (filed 251 255 rw false 0 1 ∷ plain 258 261 w ∷ plain 270 272 r ∷ plain 273 274 r ∷ plain 286 287 r ∷ plain 34359705597 34359705599 r ∷ []))
    ∷ kernel_step 0 (Touch 256 Read) (Ok (Signal MapErr)) None
    ∷ kernel_step 0 (Touch 256 Write) (Ok (Signal MapErr)) None
    ∷ kernel_step 0 (Touch 252 Exec) (Ok (Signal AccErr)) None
    ∷ kernel_step 0 (Touch 271 Write) (Ok (Signal AccErr)) None
    ∷ kernel_step 0 (Touch 254 Read) (Ok (Signal BusErr)) None
    ∷ kernel_step 0 (Map 0 4096 rw 1 (pos 4) 4096) (Ok (Returned 140737354121216)) (Some (filed 251 255 rw false 0 1 ∷ plain 258 261 w ∷ plain 270 272 r ∷ plain 273 274 r ∷ plain 286 287 r ∷ filed 34359705596 34359705597 rw true 4096 2 ∷ plain 34359705597 34359705599 r ∷ []))
    ∷ kernel_step 0 (Remap 1048576 4096 8192 1 0) (Err 14) (Some (filed 251 255 rw false 0 1 ∷ plain 258 261 w ∷ plain 270 272 r ∷ plain 273 274 r ∷ plain 286 287 r ∷ filed 34359705596 34359705597 rw true 4096 2 ∷ plain 34359705597 34359705599 r ∷ []))
    ∷ kernel_step 0 (Protect 1073152 16384 rw) (Err 12) (Some (filed 251 255 rw false 0 1 ∷ plain 258 261 w ∷ plain 270 272 r ∷ plain 273 274 r ∷ plain 286 287 r ∷ filed 34359705596 34359705597 rw true 4096 2 ∷ plain 34359705597 34359705599 r ∷ []))
    ∷ kernel_step 0 (Map 1118208 16384 rx 50 (negsuc 0) 0) (Ok (Returned 1118208)) (Some (filed 251 255 rw false 0 1 ∷ plain 258 261 w ∷ plain 270 272 r ∷ plain 273 277 rx ∷ plain 286 287 r ∷ filed 34359705596 34359705597 rw true 4096 2 ∷ plain 34359705597 34359705599 r ∷ []))
    ∷ kernel_step 0 (Touch 256 Read) (Ok (Signal MapErr)) (Some (filed 251 255 rw false 0 1 ∷ plain 258 261 w ∷ plain 270 272 r ∷ plain 273 277 rx ∷ plain 286 287 r ∷ filed 34359705596 34359705597 rw true 4096 2 ∷ plain 34359705597 34359705599 r ∷ []))
    ∷ []

-- written_limit_319: the kernel
abbrev pub written_limit_319_on : Kernel
written_limit_319_on = record { rules = linux_6_17; machine = record { lowest_built = 16; memory = 245000; stack = 8388608; has_keys = true; huge_always = true; files_are_huge = false; vsyscall = Xonly }; config = config 4096 140737354133504 6 0 (file_row 3 true false 20000 ∷ []) }

-- written_limit_319: its answers
abbrev pub written_limit_319 : List Step
written_limit_319 =
    kernel_step 0 (Map 1048576 16384 rw 50 (negsuc 0) 0) (Ok (Returned 1048576)) (Some (plain 256 260 rw ∷ []))
    ∷ kernel_step 0 (Map 1056768 16384 r 50 (negsuc 0) 0) (Ok (Returned 1056768)) (Some (plain 256 258 rw ∷ plain 258 262 r ∷ []))
    ∷ kernel_step 0 (Protect 1048576 4096 rw) (Ok (Returned 0)) (Some (plain 256 258 rw ∷ plain 258 262 r ∷ []))
    ∷ kernel_step 0 (Remap 1048576 16384 16384 3 1060864) (Err 22) (Some (plain 256 258 rw ∷ plain 258 262 r ∷ []))
    ∷ kernel_step 0 (Map 1056768 4096 rw 50 (negsuc 0) 0) (Ok (Returned 1056768)) (Some (plain 256 259 rw ∷ plain 259 262 r ∷ []))
    ∷ kernel_step 0 (Touch 256 Read) (Ok (Serves 256 259 rw false 0)) None
    ∷ kernel_step 0 (Protect 1048576 12288 rw) (Ok (Returned 0)) (Some (plain 256 259 rw ∷ plain 259 262 r ∷ []))
    ∷ kernel_step 0 (Remap 1060864 16384 16384 3 1048576) (Err 22) (Some (plain 256 259 rw ∷ plain 259 262 r ∷ []))
    ∷ kernel_step 0 (Map 1056768 4096 r 50 (negsuc 0) 0) (Ok (Returned 1056768)) (Some (plain 256 258 rw ∷ plain 258 262 r ∷ []))
    ∷ kernel_step 0 (Map 1064960 4096 r 50 (negsuc 0) 0) (Ok (Returned 1064960)) (Some (plain 256 258 rw ∷ plain 258 262 r ∷ []))
    ∷ kernel_step 0 (Map 1060864 12288 r 50 (negsuc 0) 0) (Ok (Returned 1060864)) (Some (plain 256 258 rw ∷ plain 258 262 r ∷ []))
    ∷ kernel_step 0 (Remap 1048576 16384 16384 3 1572864) (Err 12) (Some (plain 256 258 rw ∷ plain 258 262 r ∷ []))
    ∷ kernel_step 0 (Map 1064960 16384 r 50 (negsuc 0) 0) (Ok (Returned 1064960)) (Some (plain 256 258 rw ∷ plain 258 264 r ∷ []))
    ∷ kernel_step 0 (Protect 1048576 16384 r) (Ok (Returned 0)) (Some (plain 256 264 r ∷ []))
    ∷ kernel_step 0 (Protect 1064960 4096 r) (Ok (Returned 0)) (Some (plain 256 264 r ∷ []))
    ∷ kernel_step 0 (Remap 1048576 32768 32768 5 0) (Err 12) (Some (plain 256 264 r ∷ []))
    ∷ kernel_step 0 (Touch 258 Read) (Ok (Serves 256 264 r false 0)) None
    ∷ kernel_step 0 (Touch 256 Write) (Ok (Signal AccErr)) None
    ∷ kernel_step 0 (Map 1064960 34359758848 rw 50 (negsuc 0) 0) (Err 12) (Some (plain 256 260 r ∷ plain 260 264 r ∷ []))
    ∷ kernel_step 0 (Unmap 1060864 12288) (Ok (Returned 0)) (Some (plain 256 259 r ∷ plain 262 264 r ∷ []))
    ∷ kernel_step 0 (Protect 1064960 12288 rw) (Err 12) (Some (plain 256 259 r ∷ plain 262 264 r ∷ []))
    ∷ kernel_step 0 (Map 1048576 16384 r 50 (negsuc 0) 0) (Ok (Returned 1048576)) (Some (plain 256 260 r ∷ plain 262 264 r ∷ []))
    ∷ kernel_step 0 (Protect 1073152 8192 r) (Ok (Returned 0)) (Some (plain 256 260 r ∷ plain 262 264 r ∷ []))
    ∷ kernel_step 0 (Touch 258 Exec) (Ok (Signal AccErr)) None
    ∷ kernel_step 0 (Remap 1048576 16384 16384 3 1605632) (Err 12) (Some (plain 256 260 r ∷ plain 262 264 r ∷ []))
    ∷ kernel_step 0 (Touch 256 Write) (Ok (Signal AccErr)) None
    ∷ kernel_step 0 (Protect 1056768 16384 r) (Err 12) (Some (plain 256 260 r ∷ plain 262 264 r ∷ []))
    ∷ kernel_step 0 (Remap 1572864 16384 16384 3 1048576) (Err 12) (Some (plain 256 260 r ∷ plain 262 264 r ∷ []))
    ∷ kernel_step 0 (Protect 1052672 12288 r) (Ok (Returned 0)) (Some (plain 256 260 r ∷ plain 262 264 r ∷ []))
    ∷ kernel_step 0 (Fork 1) (Ok (Returned 0)) (Some (plain 256 260 r ∷ plain 262 264 r ∷ []))
    ∷ []

-- hard_331: the kernel
abbrev pub hard_331_on : Kernel
hard_331_on = record { rules = linux_6_17; machine = record { lowest_built = 16; memory = 245000; stack = 8388608; has_keys = true; huge_always = true; files_are_huge = false; vsyscall = Xonly }; config = config 4096 140737354133504 65530 1077248 ([]) }

-- hard_331: its answers
abbrev pub hard_331 : List Step
hard_331 =
    kernel_step 0 (Map 1114112 12288 r 50 (negsuc 0) 0) (Ok (Returned 1114112)) (Some (plain 272 275 r ∷ []))
    ∷ kernel_step 0 (Map 0 4096 r 33 (negsuc 0) 0) (Ok (Returned 140737354129408)) (Some (plain 272 275 r ∷ filed 34359705598 34359705599 r true 0 1 ∷ []))
    ∷ kernel_step 0 (Protect 1118208 8192 rx) (Ok (Returned 0)) (Some (plain 272 273 r ∷ plain 273 275 rx ∷ filed 34359705598 34359705599 r true 0 1 ∷ []))
    ∷ kernel_step 0 (Protect 1114112 4096 x) (Ok (Returned 0)) (Some (plain 272 273 x ∷ plain 273 275 rx ∷ filed 34359705598 34359705599 r true 0 1 ∷ []))
    ∷ kernel_step 0 (Remap 1118208 16384 16384 3 1097728) (Ok (Returned 1097728)) (Some (plain 268 270 rx ∷ plain 272 273 x ∷ filed 34359705598 34359705599 r true 0 1 ∷ []))
    ∷ kernel_step 0 (Remap 1097728 8192 8192 7 1105920) (Ok (Returned 1105920)) (Some (plain 268 272 rx ∷ plain 272 273 x ∷ filed 34359705598 34359705599 r true 0 1 ∷ []))
    ∷ kernel_step 0 (Remap 1097728 4096 4096 3 1089536) (Ok (Returned 1089536)) (Some (plain 266 267 rx ∷ plain 269 272 rx ∷ plain 272 273 x ∷ filed 34359705598 34359705599 r true 0 1 ∷ []))
    ∷ kernel_step 0 (Break 1093640) (Ok (Returned 1077248)) (Some (plain 266 267 rx ∷ plain 269 272 rx ∷ plain 272 273 x ∷ filed 34359705598 34359705599 r true 0 1 ∷ []))
    ∷ kernel_step 0 (Touch 270 Write) (Ok (Signal AccErr)) None
    ∷ kernel_step 0 (Remap 1101824 16384 12288 3 1093632) (Err 22) (Some (plain 266 267 rx ∷ plain 269 272 rx ∷ plain 272 273 x ∷ filed 34359705598 34359705599 r true 0 1 ∷ []))
    ∷ kernel_step 0 (Remap 1126400 8192 16384 3 1110016) (Err 14) (Some (plain 266 267 rx ∷ plain 269 272 rx ∷ plain 272 273 x ∷ filed 34359705598 34359705599 r true 0 1 ∷ []))
    ∷ kernel_step 0 (Map 1069056 16384 rw 50 (negsuc 0) 0) (Ok (Returned 1069056)) (Some (heap 261 265 rw ∷ plain 266 267 rx ∷ plain 269 272 rx ∷ plain 272 273 x ∷ filed 34359705598 34359705599 r true 0 1 ∷ []))
    ∷ kernel_step 0 (Protect 1101824 4096 w) (Ok (Returned 0)) (Some (heap 261 265 rw ∷ plain 266 267 rx ∷ plain 269 270 w ∷ plain 270 272 rx ∷ plain 272 273 x ∷ filed 34359705598 34359705599 r true 0 1 ∷ []))
    ∷ kernel_step 0 (Protect 1101824 4096 rw) (Ok (Returned 0)) (Some (heap 261 265 rw ∷ plain 266 267 rx ∷ plain 269 270 rw ∷ plain 270 272 rx ∷ plain 272 273 x ∷ filed 34359705598 34359705599 r true 0 1 ∷ []))
    ∷ kernel_step 0 (Remap 1105920 8192 12288 3 1093632) (Ok (Returned 1093632)) (Some (heap 261 265 rw ∷ plain 266 270 rx ∷ plain 272 273 x ∷ filed 34359705598 34359705599 r true 0 1 ∷ []))
    ∷ kernel_step 0 (Map 1089536 12288 rw 49 (negsuc 0) 0) (Ok (Returned 1089536)) (Some (heap 261 265 rw ∷ filed 266 269 rw true 0 2 ∷ plain 269 270 rx ∷ plain 272 273 x ∷ filed 34359705598 34359705599 r true 0 1 ∷ []))
    ∷ kernel_step 0 (Map 140737354125312 4096 rx 50 (negsuc 0) 0) (Ok (Returned 140737354125312)) (Some (heap 261 265 rw ∷ filed 266 269 rw true 0 2 ∷ plain 269 270 rx ∷ plain 272 273 x ∷ plain 34359705597 34359705598 rx ∷ filed 34359705598 34359705599 r true 0 1 ∷ []))
    ∷ kernel_step 0 (Protect 1073152 16384 rw) (Err 12) (Some (heap 261 265 rw ∷ filed 266 269 rw true 0 2 ∷ plain 269 270 rx ∷ plain 272 273 x ∷ plain 34359705597 34359705598 rx ∷ filed 34359705598 34359705599 r true 0 1 ∷ []))
    ∷ kernel_step 0 (Protect 1069056 16384 r) (Ok (Returned 0)) (Some (heap 261 265 r ∷ filed 266 269 rw true 0 2 ∷ plain 269 270 rx ∷ plain 272 273 x ∷ plain 34359705597 34359705598 rx ∷ filed 34359705598 34359705599 r true 0 1 ∷ []))
    ∷ kernel_step 0 (Break 1069056) (Ok (Returned 1077248)) (Some (heap 261 265 r ∷ filed 266 269 rw true 0 2 ∷ plain 269 270 rx ∷ plain 272 273 x ∷ plain 34359705597 34359705598 rx ∷ filed 34359705598 34359705599 r true 0 1 ∷ []))
    ∷ kernel_step 0 (Map 1085440 16384 rw 50 (negsuc 0) 0) (Ok (Returned 1085440)) (Some (heap 261 265 r ∷ plain 265 269 rw ∷ plain 269 270 rx ∷ plain 272 273 x ∷ plain 34359705597 34359705598 rx ∷ filed 34359705598 34359705599 r true 0 1 ∷ []))
    ∷ kernel_step 0 (Protect 1069056 16384 rw) (Ok (Returned 0)) (Some (heap 261 269 rw ∷ plain 269 270 rx ∷ plain 272 273 x ∷ plain 34359705597 34359705598 rx ∷ filed 34359705598 34359705599 r true 0 1 ∷ []))
    ∷ kernel_step 0 (Map 1048576 8192 rw 49 (negsuc 0) 0) (Ok (Returned 1048576)) (Some (filed 256 258 rw true 0 3 ∷ heap 261 269 rw ∷ plain 269 270 rx ∷ plain 272 273 x ∷ plain 34359705597 34359705598 rx ∷ filed 34359705598 34359705599 r true 0 1 ∷ []))
    ∷ kernel_step 0 (Touch 272 Write) (Ok (Signal PkuErr)) None
    ∷ kernel_step 0 (Remap 1089536 8192 8192 7 1048576) (Ok (Returned 1048576)) (Some (plain 256 258 rw ∷ heap 261 269 rw ∷ plain 269 270 rx ∷ plain 272 273 x ∷ plain 34359705597 34359705598 rx ∷ filed 34359705598 34359705599 r true 0 1 ∷ []))
    ∷ kernel_step 0 (Protect 1048576 4096 r) (Ok (Returned 0)) (Some (plain 256 257 r ∷ plain 257 258 rw ∷ heap 261 269 rw ∷ plain 269 270 rx ∷ plain 272 273 x ∷ plain 34359705597 34359705598 rx ∷ filed 34359705598 34359705599 r true 0 1 ∷ []))
    ∷ kernel_step 0 (Touch 263 Write) (Ok (Serves 261 269 rw false 0)) None
    ∷ kernel_step 0 (Touch 256 Exec) (Ok (Signal AccErr)) None
    ∷ kernel_step 0 (Map 1122304 12288 w 50 (negsuc 0) 0) (Ok (Returned 1122304)) (Some (plain 256 257 r ∷ plain 257 258 rw ∷ heap 261 269 rw ∷ plain 269 270 rx ∷ plain 272 273 x ∷ plain 274 277 w ∷ plain 34359705597 34359705598 rx ∷ filed 34359705598 34359705599 r true 0 1 ∷ []))
    ∷ kernel_step 0 (Protect 1114112 12288 rwx) (Err 12) (Some (plain 256 257 r ∷ plain 257 258 rw ∷ heap 261 269 rw ∷ plain 269 270 rx ∷ plain 272 273 rwx ∷ plain 274 277 w ∷ plain 34359705597 34359705598 rx ∷ filed 34359705598 34359705599 r true 0 1 ∷ []))
    ∷ []

-- written_361: the kernel
abbrev pub written_361_on : Kernel
written_361_on = record { rules = linux_6_17; machine = record { lowest_built = 16; memory = 245000; stack = 8388608; has_keys = true; huge_always = true; files_are_huge = false; vsyscall = Xonly }; config = config 4096 140737354133504 65530 0 (file_row 3 false true 90000 ∷ []) }

-- written_361: its answers
abbrev pub written_361 : List Step
written_361 =
    kernel_step 0 (Map 1048576 12288 rw 50 (negsuc 0) 0) (Ok (Returned 1048576)) (Some (plain 256 259 rw ∷ []))
    ∷ kernel_step 0 (Map 1064960 16384 rw 50 (negsuc 0) 0) (Ok (Returned 1064960)) (Some (plain 256 259 rw ∷ plain 260 264 rw ∷ []))
    ∷ kernel_step 0 (Remap 1052672 8192 8192 7 1605632) (Ok (Returned 1605632)) (Some (plain 256 259 rw ∷ plain 260 264 rw ∷ plain 392 394 rw ∷ []))
    ∷ kernel_step 0 (Touch 258 Exec) (Ok (Signal AccErr)) None
    ∷ kernel_step 0 (Protect 1064960 16384 rw) (Ok (Returned 0)) (Some (plain 256 259 rw ∷ plain 260 264 rw ∷ plain 392 394 rw ∷ []))
    ∷ kernel_step 0 (Protect 1056768 12288 rw) (Err 12) (Some (plain 256 259 rw ∷ plain 260 264 rw ∷ plain 392 394 rw ∷ []))
    ∷ kernel_step 0 (Remap 1064960 16384 16384 7 1638400) (Ok (Returned 1638400)) (Some (plain 256 259 rw ∷ plain 260 264 rw ∷ plain 392 394 rw ∷ plain 400 404 rw ∷ []))
    ∷ kernel_step 0 (Protect 1048576 12288 rw) (Ok (Returned 0)) (Some (plain 256 259 rw ∷ plain 260 264 rw ∷ plain 392 394 rw ∷ plain 400 404 rw ∷ []))
    ∷ kernel_step 0 (Remap 1048576 4096 4096 3 1572864) (Ok (Returned 1572864)) (Some (plain 257 259 rw ∷ plain 260 264 rw ∷ plain 384 385 rw ∷ plain 392 394 rw ∷ plain 400 404 rw ∷ []))
    ∷ kernel_step 0 (Fork 1) (Ok (Returned 0)) None
    ∷ kernel_step 0 (Touch 257 Write) (Ok (Serves 257 259 rw false 0)) None
    ∷ kernel_step 1 (Map 1060864 4096 r 50 (negsuc 0) 0) (Ok (Returned 1060864)) (Some (plain 257 259 rw ∷ plain 259 260 r ∷ plain 260 264 rw ∷ plain 384 385 rw ∷ plain 392 394 rw ∷ plain 400 404 rw ∷ []))
    ∷ kernel_step 0 (Touch 402 Write) (Ok (Serves 400 404 rw false 0)) None
    ∷ kernel_step 1 (Touch 384 Write) (Ok (Serves 384 385 rw false 0)) None
    ∷ kernel_step 0 (Map 1052672 16384 rw 50 (negsuc 0) 0) (Ok (Returned 1052672)) (Some (plain 257 264 rw ∷ plain 384 385 rw ∷ plain 392 394 rw ∷ plain 400 404 rw ∷ []))
    ∷ kernel_step 0 (Map 1052672 8192 rw 50 (negsuc 0) 0) (Ok (Returned 1052672)) (Some (plain 257 264 rw ∷ plain 384 385 rw ∷ plain 392 394 rw ∷ plain 400 404 rw ∷ []))
    ∷ kernel_step 0 (Map 1056768 8192 rw 50 (negsuc 0) 0) (Ok (Returned 1056768)) (Some (plain 257 264 rw ∷ plain 384 385 rw ∷ plain 392 394 rw ∷ plain 400 404 rw ∷ []))
    ∷ kernel_step 1 (Touch 393 Write) (Ok (Serves 392 394 rw false 0)) None
    ∷ kernel_step 1 (Remap 1060864 12288 12288 3 1576960) (Ok (Returned 1576960)) (Some (plain 257 259 rw ∷ plain 262 264 rw ∷ plain 384 385 rw ∷ plain 385 386 r ∷ plain 386 388 rw ∷ plain 392 394 rw ∷ plain 400 404 rw ∷ []))
    ∷ kernel_step 1 (Map 1056768 4096 rwx 50 (negsuc 0) 0) (Ok (Returned 1056768)) (Some (plain 257 258 rw ∷ plain 258 259 rwx ∷ plain 262 264 rw ∷ plain 384 385 rw ∷ plain 385 386 r ∷ plain 386 388 rw ∷ plain 392 394 rw ∷ plain 400 404 rw ∷ []))
    ∷ kernel_step 0 (Remap 1052672 24576 24576 3 1605632) (Ok (Returned 1605632)) (Some (plain 263 264 rw ∷ plain 384 385 rw ∷ plain 392 398 rw ∷ plain 400 404 rw ∷ []))
    ∷ kernel_step 0 (Touch 397 Write) (Ok (Serves 392 398 rw false 0)) None
    ∷ kernel_step 1 (Touch 385 Write) (Ok (Signal AccErr)) None
    ∷ kernel_step 0 (Map 1052672 8192 rw 50 (negsuc 0) 0) (Ok (Returned 1052672)) (Some (plain 257 259 rw ∷ plain 263 264 rw ∷ plain 384 385 rw ∷ plain 392 398 rw ∷ plain 400 404 rw ∷ []))
    ∷ kernel_step 1 (Map 1060864 16384 r 50 (negsuc 0) 0) (Ok (Returned 1060864)) (Some (plain 257 258 rw ∷ plain 258 259 rwx ∷ plain 259 263 r ∷ plain 263 264 rw ∷ plain 384 385 rw ∷ plain 385 386 r ∷ plain 386 388 rw ∷ plain 392 394 rw ∷ plain 400 404 rw ∷ []))
    ∷ kernel_step 0 (Map 1056768 12288 rw 32818 (negsuc 0) 0) (Ok (Returned 1056768)) (Some (plain 257 261 rw ∷ plain 263 264 rw ∷ plain 384 385 rw ∷ plain 392 398 rw ∷ plain 400 404 rw ∷ []))
    ∷ kernel_step 1 (Remap 1052672 8192 8192 7 1060864) (Ok (Returned 1060864)) (Some (plain 257 258 rw ∷ plain 258 259 rwx ∷ plain 259 260 rw ∷ plain 260 261 rwx ∷ plain 261 263 r ∷ plain 263 264 rw ∷ plain 384 385 rw ∷ plain 385 386 r ∷ plain 386 388 rw ∷ plain 392 394 rw ∷ plain 400 404 rw ∷ []))
    ∷ kernel_step 1 (Map 1048576 16384 rw 50 (negsuc 0) 0) (Ok (Returned 1048576)) (Some (plain 256 260 rw ∷ plain 260 261 rwx ∷ plain 261 263 r ∷ plain 263 264 rw ∷ plain 384 385 rw ∷ plain 385 386 r ∷ plain 386 388 rw ∷ plain 392 394 rw ∷ plain 400 404 rw ∷ []))
    ∷ kernel_step 1 (Remap 1060864 4096 4096 3 1064960) (Ok (Returned 1064960)) (Some (plain 256 259 rw ∷ plain 260 261 rw ∷ plain 261 263 r ∷ plain 263 264 rw ∷ plain 384 385 rw ∷ plain 385 386 r ∷ plain 386 388 rw ∷ plain 392 394 rw ∷ plain 400 404 rw ∷ []))
    ∷ kernel_step 0 (Touch 259 Write) (Ok (Serves 257 261 rw false 0)) (Some (plain 257 261 rw ∷ plain 263 264 rw ∷ plain 384 385 rw ∷ plain 392 398 rw ∷ plain 400 404 rw ∷ []))
    ∷ []

-- sealed_410: the kernel
abbrev pub sealed_410_on : Kernel
sealed_410_on = record { rules = linux_6_17; machine = record { lowest_built = 16; memory = 245000; stack = 8388608; has_keys = true; huge_always = true; files_are_huge = false; vsyscall = Xonly }; config = config 4096 140737354133504 65530 0 (file_row 3 true true 0 ∷ []) }

-- sealed_410: its answers
abbrev pub sealed_410 : List Step
sealed_410 =
    kernel_step 0 (Map 1105920 16384 rwx 18 (pos 3) 8192) (Ok (Returned 1105920)) (Some (filed 270 274 rwx false 8192 1 ∷ []))
    ∷ kernel_step 0 (Map 1097728 8192 rwx 18 (pos 3) 0) (Ok (Returned 1097728)) (Some (filed 268 274 rwx false 0 1 ∷ []))
    ∷ kernel_step 0 (Seal 1097728 24576 0) (Ok (Returned 0)) (Some (filed 268 274 rwx false 0 1 ∷ []))
    ∷ kernel_step 0 (Map 1122304 12288 rwx 18 (pos 3) 24576) (Ok (Returned 1122304)) (Some (filed 268 274 rwx false 0 1 ∷ filed 274 277 rwx false 24576 1 ∷ []))
    ∷ kernel_step 0 (Remap 1130496 4096 4096 5 0) (Ok (Returned 140737354129408)) (Some (filed 268 274 rwx false 0 1 ∷ filed 274 277 rwx false 24576 1 ∷ filed 34359705598 34359705599 rwx false 32768 1 ∷ []))
    ∷ kernel_step 0 (Protect 1097728 28672 r) (Err 1) (Some (filed 268 274 rwx false 0 1 ∷ filed 274 277 rwx false 24576 1 ∷ filed 34359705598 34359705599 rwx false 32768 1 ∷ []))
    ∷ kernel_step 0 (Protect 1089536 12288 rw) (Err 12) (Some (filed 268 274 rwx false 0 1 ∷ filed 274 277 rwx false 24576 1 ∷ filed 34359705598 34359705599 rwx false 32768 1 ∷ []))
    ∷ kernel_step 0 (Protect 1097728 12288 x) (Err 1) (Some (filed 268 274 rwx false 0 1 ∷ filed 274 277 rwx false 24576 1 ∷ filed 34359705598 34359705599 rwx false 32768 1 ∷ []))
    ∷ kernel_step 0 (Seal 1097728 24576 0) (Ok (Returned 0)) (Some (filed 268 274 rwx false 0 1 ∷ filed 274 277 rwx false 24576 1 ∷ filed 34359705598 34359705599 rwx false 32768 1 ∷ []))
    ∷ kernel_step 0 (Map 1126400 16384 rw 34 (negsuc 0) 0) (Ok (Returned 140737354113024)) (Some (filed 268 274 rwx false 0 1 ∷ filed 274 277 rwx false 24576 1 ∷ plain 34359705594 34359705598 rw ∷ filed 34359705598 34359705599 rwx false 32768 1 ∷ []))
    ∷ kernel_step 0 (Remap 1122304 12288 16384 1 0) (Ok (Returned 1122304)) (Some (filed 268 274 rwx false 0 1 ∷ filed 274 278 rwx false 24576 1 ∷ plain 34359705594 34359705598 rw ∷ filed 34359705598 34359705599 rwx false 32768 1 ∷ []))
    ∷ kernel_step 0 (Protect 1101824 12288 rwx) (Err 1) (Some (filed 268 274 rwx false 0 1 ∷ filed 274 278 rwx false 24576 1 ∷ plain 34359705594 34359705598 rw ∷ filed 34359705598 34359705599 rwx false 32768 1 ∷ []))
    ∷ kernel_step 0 (Seal 1130496 16384 0) (Err 12) (Some (filed 268 274 rwx false 0 1 ∷ filed 274 278 rwx false 24576 1 ∷ plain 34359705594 34359705598 rw ∷ filed 34359705598 34359705599 rwx false 32768 1 ∷ []))
    ∷ kernel_step 0 (Seal 1097728 40960 0) (Ok (Returned 0)) (Some (filed 268 278 rwx false 0 1 ∷ plain 34359705594 34359705598 rw ∷ filed 34359705598 34359705599 rwx false 32768 1 ∷ []))
    ∷ kernel_step 0 (Map 0 16384 rx 34 (negsuc 0) 0) (Ok (Returned 140737354096640)) (Some (filed 268 278 rwx false 0 1 ∷ plain 34359705590 34359705594 rx ∷ plain 34359705594 34359705598 rw ∷ filed 34359705598 34359705599 rwx false 32768 1 ∷ []))
    ∷ kernel_step 0 (Map 1093632 8192 rx 306 (negsuc 0) 0) (Err 1) (Some (filed 268 278 rwx false 0 1 ∷ plain 34359705590 34359705594 rx ∷ plain 34359705594 34359705598 rw ∷ filed 34359705598 34359705599 rwx false 32768 1 ∷ []))
    ∷ kernel_step 0 (Unmap 1097728 40960) (Err 1) (Some (filed 268 278 rwx false 0 1 ∷ plain 34359705590 34359705594 rx ∷ plain 34359705594 34359705598 rw ∷ filed 34359705598 34359705599 rwx false 32768 1 ∷ []))
    ∷ kernel_step 0 (Unmap 1097728 40960) (Err 1) (Some (filed 268 278 rwx false 0 1 ∷ plain 34359705590 34359705594 rx ∷ plain 34359705594 34359705598 rw ∷ filed 34359705598 34359705599 rwx false 32768 1 ∷ []))
    ∷ kernel_step 0 (Seal 1110016 28672 0) (Ok (Returned 0)) (Some (filed 268 278 rwx false 0 1 ∷ plain 34359705590 34359705594 rx ∷ plain 34359705594 34359705598 rw ∷ filed 34359705598 34359705599 rwx false 32768 1 ∷ []))
    ∷ kernel_step 0 (Map 0 12288 rw 34 (negsuc 0) 0) (Ok (Returned 140737354084352)) (Some (filed 268 278 rwx false 0 1 ∷ plain 34359705587 34359705590 rw ∷ plain 34359705590 34359705594 rx ∷ plain 34359705594 34359705598 rw ∷ filed 34359705598 34359705599 rwx false 32768 1 ∷ []))
    ∷ kernel_step 0 (Seal 1097728 4096 0) (Ok (Returned 0)) (Some (filed 268 278 rwx false 0 1 ∷ plain 34359705587 34359705590 rw ∷ plain 34359705590 34359705594 rx ∷ plain 34359705594 34359705598 rw ∷ filed 34359705598 34359705599 rwx false 32768 1 ∷ []))
    ∷ kernel_step 0 (Map 0 4096 rw 1 (pos 3) 8192) (Ok (Returned 140737354080256)) (Some (filed 268 278 rwx false 0 1 ∷ filed 34359705586 34359705587 rw true 8192 1 ∷ plain 34359705587 34359705590 rw ∷ plain 34359705590 34359705594 rx ∷ plain 34359705594 34359705598 rw ∷ filed 34359705598 34359705599 rwx false 32768 1 ∷ []))
    ∷ kernel_step 0 (Map 0 8192 w 2 (pos 3) 12288) (Ok (Returned 140737354072064)) (Some (filed 268 278 rwx false 0 1 ∷ filed 34359705584 34359705586 w false 12288 1 ∷ filed 34359705586 34359705587 rw true 8192 1 ∷ plain 34359705587 34359705590 rw ∷ plain 34359705590 34359705594 rx ∷ plain 34359705594 34359705598 rw ∷ filed 34359705598 34359705599 rwx false 32768 1 ∷ []))
    ∷ kernel_step 0 (Seal 1097728 40960 0) (Ok (Returned 0)) (Some (filed 268 278 rwx false 0 1 ∷ filed 34359705584 34359705586 w false 12288 1 ∷ filed 34359705586 34359705587 rw true 8192 1 ∷ plain 34359705587 34359705590 rw ∷ plain 34359705590 34359705594 rx ∷ plain 34359705594 34359705598 rw ∷ filed 34359705598 34359705599 rwx false 32768 1 ∷ []))
    ∷ kernel_step 0 (Protect 1097728 40960 rx) (Err 1) (Some (filed 268 278 rwx false 0 1 ∷ filed 34359705584 34359705586 w false 12288 1 ∷ filed 34359705586 34359705587 rw true 8192 1 ∷ plain 34359705587 34359705590 rw ∷ plain 34359705590 34359705594 rx ∷ plain 34359705594 34359705598 rw ∷ filed 34359705598 34359705599 rwx false 32768 1 ∷ []))
    ∷ kernel_step 0 (Seal 1110016 28672 0) (Ok (Returned 0)) (Some (filed 268 278 rwx false 0 1 ∷ filed 34359705584 34359705586 w false 12288 1 ∷ filed 34359705586 34359705587 rw true 8192 1 ∷ plain 34359705587 34359705590 rw ∷ plain 34359705590 34359705594 rx ∷ plain 34359705594 34359705598 rw ∷ filed 34359705598 34359705599 rwx false 32768 1 ∷ []))
    ∷ kernel_step 0 (Protect 1097728 20480 rx) (Err 1) (Some (filed 268 278 rwx false 0 1 ∷ filed 34359705584 34359705586 w false 12288 1 ∷ filed 34359705586 34359705587 rw true 8192 1 ∷ plain 34359705587 34359705590 rw ∷ plain 34359705590 34359705594 rx ∷ plain 34359705594 34359705598 rw ∷ filed 34359705598 34359705599 rwx false 32768 1 ∷ []))
    ∷ kernel_step 0 (Touch 281 Read) (Ok (Signal MapErr)) None
    ∷ kernel_step 0 (Protect 1097728 28672 rx) (Err 1) (Some (filed 268 278 rwx false 0 1 ∷ filed 34359705584 34359705586 w false 12288 1 ∷ filed 34359705586 34359705587 rw true 8192 1 ∷ plain 34359705587 34359705590 rw ∷ plain 34359705590 34359705594 rx ∷ plain 34359705594 34359705598 rw ∷ filed 34359705598 34359705599 rwx false 32768 1 ∷ []))
    ∷ kernel_step 0 (Seal 1114112 24576 0) (Ok (Returned 0)) (Some (filed 268 278 rwx false 0 1 ∷ filed 34359705584 34359705586 w false 12288 1 ∷ filed 34359705586 34359705587 rw true 8192 1 ∷ plain 34359705587 34359705590 rw ∷ plain 34359705590 34359705594 rx ∷ plain 34359705594 34359705598 rw ∷ filed 34359705598 34359705599 rwx false 32768 1 ∷ []))
    ∷ []

-- written_433: the kernel
abbrev pub written_433_on : Kernel
written_433_on = record { rules = linux_6_17; machine = record { lowest_built = 16; memory = 245000; stack = 8388608; has_keys = true; huge_always = true; files_are_huge = false; vsyscall = Xonly }; config = config 4096 140737354133504 65530 0 (file_row 3 true false 5000 ∷ file_row 4 true true 5000 ∷ file_row 5 false true 0 ∷ []) }

-- written_433: its answers
abbrev pub written_433 : List Step
written_433 =
    kernel_step 0 (Map 1060864 4096 rw 50 (negsuc 0) 0) (Ok (Returned 1060864)) (Some (plain 259 260 rw ∷ []))
    ∷ kernel_step 0 (Map 1060864 16384 r 50 (negsuc 0) 0) (Ok (Returned 1060864)) (Some (plain 259 263 r ∷ []))
    ∷ kernel_step 0 (Protect 1052672 16384 r) (Err 12) (Some (plain 259 263 r ∷ []))
    ∷ kernel_step 0 (Map 1056768 8192 rwx 50 (negsuc 0) 0) (Ok (Returned 1056768)) (Some (plain 258 260 rwx ∷ plain 260 263 r ∷ []))
    ∷ kernel_step 0 (Protect 1048576 8192 rw) (Err 12) (Some (plain 258 260 rwx ∷ plain 260 263 r ∷ []))
    ∷ kernel_step 0 (Protect 1052672 8192 rwx) (Err 12) (Some (plain 258 260 rwx ∷ plain 260 263 r ∷ []))
    ∷ kernel_step 0 (Map 1048576 12288 rw 50 (negsuc 0) 0) (Ok (Returned 1048576)) (Some (plain 256 259 rw ∷ plain 259 260 rwx ∷ plain 260 263 r ∷ []))
    ∷ kernel_step 0 (Unmap 1060864 4096) (Ok (Returned 0)) (Some (plain 256 259 rw ∷ plain 260 263 r ∷ []))
    ∷ kernel_step 0 (Touch 257 Read) (Ok (Serves 256 259 rw false 0)) None
    ∷ kernel_step 0 (Touch 257 Write) (Ok (Serves 256 259 rw false 0)) None
    ∷ kernel_step 0 (Touch 261 Write) (Ok (Signal AccErr)) None
    ∷ kernel_step 0 (Touch 256 Write) (Ok (Serves 256 259 rw false 0)) None
    ∷ kernel_step 0 (Map 1048576 4096 rwx 50 (negsuc 0) 0) (Ok (Returned 1048576)) (Some (plain 256 257 rwx ∷ plain 257 259 rw ∷ plain 260 263 r ∷ []))
    ∷ kernel_step 0 (Touch 256 Read) (Ok (Serves 256 257 rwx false 0)) None
    ∷ kernel_step 0 (Touch 258 Write) (Ok (Serves 257 259 rw false 0)) None
    ∷ kernel_step 0 (Remap 1056768 4096 4096 3 1638400) (Ok (Returned 1638400)) (Some (plain 256 257 rwx ∷ plain 257 258 rw ∷ plain 260 263 r ∷ plain 400 401 rw ∷ []))
    ∷ kernel_step 0 (Protect 1064960 8192 rw) (Ok (Returned 0)) (Some (plain 256 257 rwx ∷ plain 257 258 rw ∷ plain 260 262 rw ∷ plain 262 263 r ∷ plain 400 401 rw ∷ []))
    ∷ kernel_step 0 (Protect 1073152 4096 r) (Ok (Returned 0)) (Some (plain 256 257 rwx ∷ plain 257 258 rw ∷ plain 260 262 rw ∷ plain 262 263 r ∷ plain 400 401 rw ∷ []))
    ∷ kernel_step 0 (Protect 1064960 8192 rw) (Ok (Returned 0)) (Some (plain 256 257 rwx ∷ plain 257 258 rw ∷ plain 260 262 rw ∷ plain 262 263 r ∷ plain 400 401 rw ∷ []))
    ∷ kernel_step 0 (Touch 257 Write) (Ok (Serves 257 258 rw false 0)) None
    ∷ kernel_step 0 (Remap 1048576 8192 8192 3 1605632) (Ok (Returned 1605632)) (Some (plain 260 262 rw ∷ plain 262 263 r ∷ plain 392 393 rwx ∷ plain 393 394 rw ∷ plain 400 401 rw ∷ []))
    ∷ kernel_step 0 (Touch 257 Write) (Ok (Signal MapErr)) None
    ∷ kernel_step 0 (Touch 260 Read) (Ok (Serves 260 262 rw false 0)) None
    ∷ kernel_step 0 (Remap 1605632 8192 8192 3 1048576) (Ok (Returned 1048576)) (Some (plain 256 257 rwx ∷ plain 257 258 rw ∷ plain 260 262 rw ∷ plain 262 263 r ∷ plain 400 401 rw ∷ []))
    ∷ kernel_step 0 (Touch 400 Write) (Ok (Serves 400 401 rw false 0)) None
    ∷ kernel_step 0 (Unmap 1052672 4096) (Ok (Returned 0)) (Some (plain 256 257 rwx ∷ plain 260 262 rw ∷ plain 262 263 r ∷ plain 400 401 rw ∷ []))
    ∷ kernel_step 0 (Map 1060864 16384 rw 50 (negsuc 0) 0) (Ok (Returned 1060864)) (Some (plain 256 257 rwx ∷ plain 259 263 rw ∷ plain 400 401 rw ∷ []))
    ∷ kernel_step 0 (Remap 1638400 4096 4096 3 1056768) (Ok (Returned 1056768)) (Some (plain 256 257 rwx ∷ plain 258 263 rw ∷ []))
    ∷ kernel_step 0 (Remap 1060864 4096 4096 3 1642496) (Ok (Returned 1642496)) (Some (plain 256 257 rwx ∷ plain 258 259 rw ∷ plain 260 263 rw ∷ plain 401 402 rw ∷ []))
    ∷ kernel_step 0 (Protect 1052672 16384 rwx) (Err 12) (Some (plain 256 257 rwx ∷ plain 258 259 rw ∷ plain 260 263 rw ∷ plain 401 402 rw ∷ []))
    ∷ []

-- hard_499: the kernel
abbrev pub hard_499_on : Kernel
hard_499_on = record { rules = linux_6_17; machine = record { lowest_built = 16; memory = 245000; stack = 8388608; has_keys = true; huge_always = true; files_are_huge = false; vsyscall = Xonly }; config = config 4096 140737354133504 65530 1069056 ([]) }

-- hard_499: its answers
abbrev pub hard_499 : List Step
hard_499 =
    kernel_step 0 (Map 0 8192 r 34 (negsuc 0) 0) (Ok (Returned 140737354125312)) (Some (plain 34359705597 34359705599 r ∷ []))
    ∷ kernel_step 0 (Map 1056768 8192 rw 50 (negsuc 0) 0) (Ok (Returned 1056768)) (Some (plain 258 260 rw ∷ plain 34359705597 34359705599 r ∷ []))
    ∷ kernel_step 0 (Touch 259 Write) (Ok (Serves 258 260 rw false 0)) None
    ∷ kernel_step 0 (Map 1044480 12288 r 50 (negsuc 0) 0) (Ok (Returned 1044480)) (Some (plain 255 258 r ∷ plain 258 260 rw ∷ plain 34359705597 34359705599 r ∷ []))
    ∷ kernel_step 0 (Touch 256 Write) (Ok (Signal AccErr)) None
    ∷ kernel_step 0 (Map 1036288 8192 r 49 (negsuc 0) 0) (Ok (Returned 1036288)) (Some (filed 253 255 r true 0 1 ∷ plain 255 258 r ∷ plain 258 260 rw ∷ plain 34359705597 34359705599 r ∷ []))
    ∷ kernel_step 0 (Break 1085440) (Ok (Returned 1085440)) (Some (filed 253 255 r true 0 1 ∷ plain 255 258 r ∷ plain 258 260 rw ∷ heap 261 265 rw ∷ plain 34359705597 34359705599 r ∷ []))
    ∷ kernel_step 0 (Remap 1056768 8192 4096 0 0) (Ok (Returned 1056768)) (Some (filed 253 255 r true 0 1 ∷ plain 255 258 r ∷ plain 258 259 rw ∷ heap 261 265 rw ∷ plain 34359705597 34359705599 r ∷ []))
    ∷ kernel_step 0 (Protect 1044480 40960 rw) (Err 12) (Some (filed 253 255 r true 0 1 ∷ plain 255 259 rw ∷ heap 261 265 rw ∷ plain 34359705597 34359705599 r ∷ []))
    ∷ kernel_step 0 (Touch 262 Exec) (Ok (Signal AccErr)) None
    ∷ kernel_step 0 (Map 1048576 8192 rw 34 (negsuc 0) 0) (Ok (Returned 140737354117120)) (Some (filed 253 255 r true 0 1 ∷ plain 255 259 rw ∷ heap 261 265 rw ∷ plain 34359705595 34359705597 rw ∷ plain 34359705597 34359705599 r ∷ []))
    ∷ kernel_step 0 (Touch 253 Exec) (Ok (Signal AccErr)) None
    ∷ kernel_step 0 (Touch 258 Read) (Ok (Serves 255 259 rw false 0)) None
    ∷ kernel_step 0 (Remap 1052672 8192 8192 5 0) (Ok (Returned 140737354108928)) (Some (filed 253 255 r true 0 1 ∷ plain 255 259 rw ∷ heap 261 265 rw ∷ plain 34359705593 34359705595 rw ∷ plain 34359705595 34359705597 rw ∷ plain 34359705597 34359705599 r ∷ []))
    ∷ kernel_step 0 (Remap 1114112 16384 20480 0 0) (Err 14) (Some (filed 253 255 r true 0 1 ∷ plain 255 259 rw ∷ heap 261 265 rw ∷ plain 34359705593 34359705595 rw ∷ plain 34359705595 34359705597 rw ∷ plain 34359705597 34359705599 r ∷ []))
    ∷ kernel_step 0 (Break 1097720) (Ok (Returned 1097720)) (Some (filed 253 255 r true 0 1 ∷ plain 255 259 rw ∷ heap 261 268 rw ∷ plain 34359705593 34359705595 rw ∷ plain 34359705595 34359705597 rw ∷ plain 34359705597 34359705599 r ∷ []))
    ∷ kernel_step 0 (Protect 1089536 20480 r) (Err 12) (Some (filed 253 255 r true 0 1 ∷ plain 255 259 rw ∷ heap 261 266 rw ∷ heap 266 268 r ∷ plain 34359705593 34359705595 rw ∷ plain 34359705595 34359705597 rw ∷ plain 34359705597 34359705599 r ∷ []))
    ∷ kernel_step 0 (Map 1044480 8192 rw 50 (negsuc 0) 0) (Ok (Returned 1044480)) (Some (filed 253 255 r true 0 1 ∷ plain 255 259 rw ∷ heap 261 266 rw ∷ heap 266 268 r ∷ plain 34359705593 34359705595 rw ∷ plain 34359705595 34359705597 rw ∷ plain 34359705597 34359705599 r ∷ []))
    ∷ kernel_step 0 (Map 1081344 16384 rw 306 (negsuc 0) 0) (Ok (Returned 1081344)) (Some (filed 253 255 r true 0 1 ∷ plain 255 259 rw ∷ heap 261 264 rw ∷ heap 264 268 rw ∷ plain 34359705593 34359705595 rw ∷ plain 34359705595 34359705597 rw ∷ plain 34359705597 34359705599 r ∷ []))
    ∷ kernel_step 0 (Touch 273 Write) (Ok (Signal MapErr)) None
    ∷ kernel_step 0 (Map 1052672 16384 rw 50 (negsuc 0) 0) (Ok (Returned 1052672)) (Some (filed 253 255 r true 0 1 ∷ heap 255 264 rw ∷ heap 264 268 rw ∷ plain 34359705593 34359705595 rw ∷ plain 34359705595 34359705597 rw ∷ plain 34359705597 34359705599 r ∷ []))
    ∷ kernel_step 0 (Remap 1044480 36864 32768 1 0) (Ok (Returned 1044480)) (Some (filed 253 255 r true 0 1 ∷ heap 255 263 rw ∷ heap 264 268 rw ∷ plain 34359705593 34359705595 rw ∷ plain 34359705595 34359705597 rw ∷ plain 34359705597 34359705599 r ∷ []))
    ∷ kernel_step 0 (Touch 262 Exec) (Ok (Signal AccErr)) None
    ∷ kernel_step 0 (Protect 1044480 8192 rw) (Ok (Returned 0)) (Some (filed 253 255 r true 0 1 ∷ heap 255 263 rw ∷ heap 264 268 rw ∷ plain 34359705593 34359705595 rw ∷ plain 34359705595 34359705597 rw ∷ plain 34359705597 34359705599 r ∷ []))
    ∷ kernel_step 0 (Protect 1036288 8192 rw) (Ok (Returned 0)) (Some (filed 253 255 rw true 0 1 ∷ heap 255 263 rw ∷ heap 264 268 rw ∷ plain 34359705593 34359705595 rw ∷ plain 34359705595 34359705597 rw ∷ plain 34359705597 34359705599 r ∷ []))
    ∷ kernel_step 0 (Remap 1089536 4096 4096 3 1044480) (Ok (Returned 1044480)) (Some (filed 253 255 rw true 0 1 ∷ plain 255 256 rw ∷ heap 256 263 rw ∷ heap 264 266 rw ∷ heap 267 268 rw ∷ plain 34359705593 34359705595 rw ∷ plain 34359705595 34359705597 rw ∷ plain 34359705597 34359705599 r ∷ []))
    ∷ kernel_step 0 (Map 1081344 4096 rw 50 (negsuc 0) 0) (Ok (Returned 1081344)) (Some (filed 253 255 rw true 0 1 ∷ plain 255 256 rw ∷ heap 256 263 rw ∷ heap 264 265 rw ∷ heap 265 266 rw ∷ heap 267 268 rw ∷ plain 34359705593 34359705595 rw ∷ plain 34359705595 34359705597 rw ∷ plain 34359705597 34359705599 r ∷ []))
    ∷ kernel_step 0 (Map 140737354117120 4096 rw 50 (negsuc 0) 0) (Ok (Returned 140737354117120)) (Some (filed 253 255 rw true 0 1 ∷ plain 255 256 rw ∷ heap 256 263 rw ∷ heap 264 265 rw ∷ heap 265 266 rw ∷ heap 267 268 rw ∷ plain 34359705593 34359705595 rw ∷ plain 34359705595 34359705597 rw ∷ plain 34359705597 34359705599 r ∷ []))
    ∷ kernel_step 0 (Map 1097728 16384 rw 50 (negsuc 0) 0) (Ok (Returned 1097728)) (Some (filed 253 255 rw true 0 1 ∷ plain 255 256 rw ∷ heap 256 263 rw ∷ heap 264 265 rw ∷ heap 265 266 rw ∷ heap 267 268 rw ∷ plain 268 272 rw ∷ plain 34359705593 34359705595 rw ∷ plain 34359705595 34359705597 rw ∷ plain 34359705597 34359705599 r ∷ []))
    ∷ kernel_step 0 (Touch 207 Write) (Ok (Signal MapErr)) (Some (filed 253 255 rw true 0 1 ∷ plain 255 256 rw ∷ heap 256 263 rw ∷ heap 264 265 rw ∷ heap 265 266 rw ∷ heap 267 268 rw ∷ plain 268 272 rw ∷ plain 34359705593 34359705595 rw ∷ plain 34359705595 34359705597 rw ∷ plain 34359705597 34359705599 r ∷ []))
    ∷ []

-- written_532: the kernel
abbrev pub written_532_on : Kernel
written_532_on = record { rules = linux_6_17; machine = record { lowest_built = 16; memory = 245000; stack = 8388608; has_keys = true; huge_always = true; files_are_huge = false; vsyscall = Xonly }; config = config 4096 140737354133504 65530 1056768 (file_row 3 true true 5000 ∷ file_row 4 false true 90000 ∷ file_row 5 true false 0 ∷ []) }

-- written_532: its answers
abbrev pub written_532 : List Step
written_532 =
    kernel_step 0 (Map 1060864 16384 r 50 (negsuc 0) 0) (Ok (Returned 1060864)) (Some (plain 259 263 r ∷ []))
    ∷ kernel_step 0 (Map 1052672 16384 rw 50 (negsuc 0) 0) (Ok (Returned 1052672)) (Some (heap 257 261 rw ∷ plain 261 263 r ∷ []))
    ∷ kernel_step 0 (Touch 257 Write) (Ok (Serves 257 261 rw false 0)) None
    ∷ kernel_step 0 (Remap 1073152 20480 20480 3 1642496) (Ok (Returned 1642496)) (Some (heap 257 261 rw ∷ plain 261 262 r ∷ plain 401 402 r ∷ []))
    ∷ kernel_step 0 (Remap 1650688 12288 12288 3 1081344) (Err 14) (Some (heap 257 261 rw ∷ plain 261 262 r ∷ plain 401 402 r ∷ []))
    ∷ kernel_step 0 (Touch 261 Write) (Ok (Signal AccErr)) None
    ∷ kernel_step 0 (Protect 1052672 16384 rwx) (Ok (Returned 0)) (Some (heap 257 261 rwx ∷ plain 261 262 r ∷ plain 401 402 r ∷ []))
    ∷ kernel_step 0 (Remap 1052672 4096 4096 5 0) (Ok (Returned 140737354129408)) (Some (heap 257 261 rwx ∷ plain 261 262 r ∷ plain 401 402 r ∷ plain 34359705598 34359705599 rwx ∷ []))
    ∷ kernel_step 0 (Touch 261 Write) (Ok (Signal AccErr)) None
    ∷ kernel_step 0 (Touch 262 Write) (Ok (Signal MapErr)) None
    ∷ kernel_step 0 (Protect 1056768 16384 rw) (Ok (Returned 0)) (Some (plain 257 258 rwx ∷ plain 258 262 rw ∷ plain 401 402 r ∷ plain 34359705598 34359705599 rwx ∷ []))
    ∷ kernel_step 0 (Break 1048576) (Ok (Returned 1056768)) (Some (plain 257 258 rwx ∷ plain 258 262 rw ∷ plain 401 402 r ∷ plain 34359705598 34359705599 rwx ∷ []))
    ∷ kernel_step 0 (Map 1048576 12288 r 50 (negsuc 0) 0) (Ok (Returned 1048576)) (Some (heap 256 259 r ∷ plain 259 262 rw ∷ plain 401 402 r ∷ plain 34359705598 34359705599 rwx ∷ []))
    ∷ kernel_step 0 (Touch 262 Write) (Ok (Signal MapErr)) None
    ∷ kernel_step 0 (Break 1060864) (Ok (Returned 1056768)) (Some (heap 256 259 r ∷ plain 259 262 rw ∷ plain 401 402 r ∷ plain 34359705598 34359705599 rwx ∷ []))
    ∷ kernel_step 0 (Remap 1052672 4096 4096 3 1638400) (Ok (Returned 1638400)) (Some (plain 256 257 r ∷ plain 258 259 r ∷ plain 259 262 rw ∷ plain 400 402 r ∷ plain 34359705598 34359705599 rwx ∷ []))
    ∷ kernel_step 0 (Protect 1064960 12288 r) (Err 12) (Some (plain 256 257 r ∷ plain 258 259 r ∷ plain 259 260 rw ∷ plain 260 262 r ∷ plain 400 402 r ∷ plain 34359705598 34359705599 rwx ∷ []))
    ∷ kernel_step 0 (Protect 1056768 16384 r) (Ok (Returned 0)) (Some (plain 256 257 r ∷ plain 258 259 r ∷ plain 259 262 r ∷ plain 400 402 r ∷ plain 34359705598 34359705599 rwx ∷ []))
    ∷ kernel_step 0 (Touch 262 Write) (Ok (Signal MapErr)) None
    ∷ kernel_step 0 (Map 1060864 4096 r 50 (negsuc 0) 0) (Ok (Returned 1060864)) (Some (plain 256 257 r ∷ plain 258 260 r ∷ plain 260 262 r ∷ plain 400 402 r ∷ plain 34359705598 34359705599 rwx ∷ []))
    ∷ kernel_step 0 (Protect 1064960 8192 r) (Ok (Returned 0)) (Some (plain 256 257 r ∷ plain 258 260 r ∷ plain 260 262 r ∷ plain 400 402 r ∷ plain 34359705598 34359705599 rwx ∷ []))
    ∷ kernel_step 0 (Touch 256 Exec) (Ok (Signal AccErr)) None
    ∷ kernel_step 0 (Map 1056768 4096 r 50 (negsuc 0) 0) (Ok (Returned 1056768)) (Some (plain 256 257 r ∷ plain 258 260 r ∷ plain 260 262 r ∷ plain 400 402 r ∷ plain 34359705598 34359705599 rwx ∷ []))
    ∷ kernel_step 0 (Break 1060864) (Ok (Returned 1056768)) (Some (plain 256 257 r ∷ plain 258 260 r ∷ plain 260 262 r ∷ plain 400 402 r ∷ plain 34359705598 34359705599 rwx ∷ []))
    ∷ kernel_step 0 (Remap 1638400 4096 4096 3 1052672) (Ok (Returned 1052672)) (Some (heap 256 260 r ∷ plain 260 262 r ∷ plain 401 402 r ∷ plain 34359705598 34359705599 rwx ∷ []))
    ∷ kernel_step 0 (Remap 1073152 4096 4096 3 1073152) (Err 22) (Some (heap 256 260 r ∷ plain 260 262 r ∷ plain 401 402 r ∷ plain 34359705598 34359705599 rwx ∷ []))
    ∷ kernel_step 0 (Remap 1056768 12288 12288 3 1576960) (Ok (Returned 1576960)) (Some (plain 256 258 r ∷ plain 261 262 r ∷ plain 385 387 r ∷ plain 387 388 r ∷ plain 401 402 r ∷ plain 34359705598 34359705599 rwx ∷ []))
    ∷ kernel_step 0 (Touch 262 Write) (Ok (Signal MapErr)) None
    ∷ kernel_step 0 (Map 1048576 12288 r 50 (negsuc 0) 0) (Ok (Returned 1048576)) (Some (heap 256 259 r ∷ plain 261 262 r ∷ plain 385 387 r ∷ plain 387 388 r ∷ plain 401 402 r ∷ plain 34359705598 34359705599 rwx ∷ []))
    ∷ kernel_step 0 (Remap 1064960 8192 8192 5 0) (Err 14) (Some (heap 256 259 r ∷ plain 261 262 r ∷ plain 385 387 r ∷ plain 387 388 r ∷ plain 401 402 r ∷ plain 34359705598 34359705599 rwx ∷ []))
    ∷ []

-- written_566: the kernel
abbrev pub written_566_on : Kernel
written_566_on = record { rules = linux_6_17; machine = record { lowest_built = 16; memory = 245000; stack = 8388608; has_keys = true; huge_always = true; files_are_huge = false; vsyscall = Xonly }; config = config 4096 140737354133504 65530 0 (file_row 3 true true 90000 ∷ file_row 4 true true 90000 ∷ file_row 5 true true 20000 ∷ []) }

-- written_566: its answers
abbrev pub written_566 : List Step
written_566 =
    kernel_step 0 (Map 1069056 12288 rw 50 (negsuc 0) 0) (Ok (Returned 1069056)) (Some (plain 261 264 rw ∷ []))
    ∷ kernel_step 0 (Map 1060864 16384 rw 50 (negsuc 0) 0) (Ok (Returned 1060864)) (Some (plain 259 264 rw ∷ []))
    ∷ kernel_step 0 (Touch 259 Write) (Ok (Serves 259 264 rw false 0)) None
    ∷ kernel_step 0 (Touch 260 Write) (Ok (Serves 259 264 rw false 0)) None
    ∷ kernel_step 0 (Touch 262 Write) (Ok (Serves 259 264 rw false 0)) None
    ∷ kernel_step 0 (Map 1073152 12288 rw 50 (negsuc 0) 0) (Ok (Returned 1073152)) (Some (plain 259 265 rw ∷ []))
    ∷ kernel_step 0 (Fork 1) (Ok (Returned 0)) None
    ∷ kernel_step 0 (Touch 264 Write) (Ok (Serves 259 265 rw false 0)) None
    ∷ kernel_step 0 (Touch 262 Write) (Ok (Serves 259 265 rw false 0)) None
    ∷ kernel_step 1 (Remap 1073152 24576 24576 3 1638400) (Ok (Returned 1638400)) (Some (plain 259 262 rw ∷ plain 400 403 rw ∷ []))
    ∷ kernel_step 1 (Unmap 1060864 12288) (Ok (Returned 0)) (Some (plain 400 403 rw ∷ []))
    ∷ kernel_step 0 (Protect 1073152 4096 rw) (Ok (Returned 0)) (Some (plain 259 265 rw ∷ []))
    ∷ kernel_step 1 (Protect 1638400 12288 rw) (Ok (Returned 0)) (Some (plain 400 403 rw ∷ []))
    ∷ kernel_step 0 (Remap 1048576 8192 8192 3 1638400) (Err 14) (Some (plain 259 265 rw ∷ []))
    ∷ kernel_step 0 (Remap 1638400 24576 24576 3 1073152) (Err 14) (Some (plain 259 265 rw ∷ []))
    ∷ kernel_step 0 (Remap 1642496 4096 4096 3 1052672) (Err 14) (Some (plain 259 265 rw ∷ []))
    ∷ kernel_step 1 (Map 1048576 16384 rw 50 (negsuc 0) 0) (Ok (Returned 1048576)) (Some (plain 256 260 rw ∷ plain 400 403 rw ∷ []))
    ∷ kernel_step 0 (Touch 262 Write) (Ok (Serves 259 265 rw false 0)) None
    ∷ kernel_step 1 (Remap 1048576 4096 4096 7 1077248) (Ok (Returned 1077248)) (Some (plain 256 260 rw ∷ plain 263 264 rw ∷ plain 400 403 rw ∷ []))
    ∷ kernel_step 1 (Map 1064960 16384 rw 50 (negsuc 0) 0) (Ok (Returned 1064960)) (Some (plain 256 264 rw ∷ plain 400 403 rw ∷ []))
    ∷ kernel_step 1 (Remap 1073152 16384 16384 3 1609728) (Ok (Returned 1609728)) (Some (plain 256 262 rw ∷ plain 393 395 rw ∷ plain 400 403 rw ∷ []))
    ∷ kernel_step 0 (Remap 1064960 20480 20480 3 1572864) (Ok (Returned 1572864)) (Some (plain 259 260 rw ∷ plain 384 389 rw ∷ []))
    ∷ kernel_step 1 (Touch 256 Write) (Ok (Serves 256 262 rw false 0)) None
    ∷ kernel_step 1 (Protect 1048576 16384 rw) (Ok (Returned 0)) (Some (plain 256 262 rw ∷ plain 393 395 rw ∷ plain 400 403 rw ∷ []))
    ∷ kernel_step 0 (Remap 1572864 20480 20480 3 1064960) (Ok (Returned 1064960)) (Some (plain 259 265 rw ∷ []))
    ∷ kernel_step 1 (Touch 256 Write) (Ok (Serves 256 262 rw false 0)) None
    ∷ kernel_step 1 (Unmap 1064960 8192) (Ok (Returned 0)) (Some (plain 256 260 rw ∷ plain 393 395 rw ∷ plain 400 403 rw ∷ []))
    ∷ kernel_step 1 (Protect 1073152 12288 rw) (Err 12) (Some (plain 256 260 rw ∷ plain 393 395 rw ∷ plain 400 403 rw ∷ []))
    ∷ kernel_step 0 (Remap 1617920 8192 8192 3 1081344) (Err 14) (Some (plain 259 265 rw ∷ []))
    ∷ kernel_step 0 (Protect 1056768 12288 rw) (Err 12) (Some (plain 259 265 rw ∷ []))
    ∷ []

-- written_609: the kernel
abbrev pub written_609_on : Kernel
written_609_on = record { rules = linux_6_17; machine = record { lowest_built = 16; memory = 245000; stack = 8388608; has_keys = true; huge_always = true; files_are_huge = false; vsyscall = Xonly }; config = config 4096 140737354133504 65530 0 (file_row 3 true true 5000 ∷ []) }

-- written_609: its answers
abbrev pub written_609 : List Step
written_609 =
    kernel_step 0 (Map 1048576 12288 rw 50 (negsuc 0) 0) (Ok (Returned 1048576)) (Some (plain 256 259 rw ∷ []))
    ∷ kernel_step 0 (Map 1064960 12288 r 306 (negsuc 0) 0) (Ok (Returned 1064960)) (Some (plain 256 259 rw ∷ plain 260 263 r ∷ []))
    ∷ kernel_step 0 (Protect 1073152 8192 rw) (Err 12) (Some (plain 256 259 rw ∷ plain 260 262 r ∷ plain 262 263 rw ∷ []))
    ∷ kernel_step 0 (Protect 1064960 8192 rw) (Ok (Returned 0)) (Some (plain 256 259 rw ∷ plain 260 263 rw ∷ []))
    ∷ kernel_step 0 (Remap 1064960 12288 12288 3 1642496) (Ok (Returned 1642496)) (Some (plain 256 259 rw ∷ plain 401 404 rw ∷ []))
    ∷ kernel_step 0 (Touch 401 Write) (Ok (Serves 401 404 rw false 0)) None
    ∷ kernel_step 0 (Protect 1048576 12288 r) (Ok (Returned 0)) (Some (plain 256 259 r ∷ plain 401 404 rw ∷ []))
    ∷ kernel_step 0 (Remap 1060864 8192 8192 7 1056768) (Err 22) (Some (plain 256 259 r ∷ plain 401 404 rw ∷ []))
    ∷ kernel_step 0 (Unmap 1064960 4096) (Ok (Returned 0)) (Some (plain 256 259 r ∷ plain 401 404 rw ∷ []))
    ∷ kernel_step 0 (Map 1056768 16384 rw 306 (negsuc 0) 0) (Ok (Returned 1056768)) (Some (plain 256 258 r ∷ plain 258 262 rw ∷ plain 401 404 rw ∷ []))
    ∷ kernel_step 0 (Protect 1056768 4096 r) (Ok (Returned 0)) (Some (plain 256 258 r ∷ plain 258 259 r ∷ plain 259 262 rw ∷ plain 401 404 rw ∷ []))
    ∷ kernel_step 0 (Map 1052672 16384 rw 50 (negsuc 0) 0) (Ok (Returned 1052672)) (Some (plain 256 257 r ∷ plain 257 261 rw ∷ plain 261 262 rw ∷ plain 401 404 rw ∷ []))
    ∷ kernel_step 0 (Remap 1052672 12288 12288 7 1630208) (Ok (Returned 1630208)) (Some (plain 256 257 r ∷ plain 257 261 rw ∷ plain 261 262 rw ∷ plain 398 401 rw ∷ plain 401 404 rw ∷ []))
    ∷ kernel_step 0 (Remap 1650688 4096 4096 3 1073152) (Ok (Returned 1073152)) (Some (plain 256 257 r ∷ plain 257 261 rw ∷ plain 261 262 rw ∷ plain 262 263 rw ∷ plain 398 401 rw ∷ plain 401 403 rw ∷ []))
    ∷ kernel_step 0 (Protect 1056768 16384 r) (Ok (Returned 0)) (Some (plain 256 257 r ∷ plain 257 258 rw ∷ plain 258 261 r ∷ plain 261 262 r ∷ plain 262 263 rw ∷ plain 398 401 rw ∷ plain 401 403 rw ∷ []))
    ∷ kernel_step 0 (Protect 1069056 4096 rw) (Ok (Returned 0)) (Some (plain 256 257 r ∷ plain 257 258 rw ∷ plain 258 261 r ∷ plain 261 262 rw ∷ plain 262 263 rw ∷ plain 398 401 rw ∷ plain 401 403 rw ∷ []))
    ∷ kernel_step 0 (Touch 0 Read) (Ok (Signal MapErr)) None
    ∷ kernel_step 0 (Touch 400 Read) (Ok (Serves 398 401 rw false 0)) None
    ∷ kernel_step 0 (Protect 1056768 16384 rw) (Ok (Returned 0)) (Some (plain 256 257 r ∷ plain 257 261 rw ∷ plain 261 262 rw ∷ plain 262 263 rw ∷ plain 398 401 rw ∷ plain 401 403 rw ∷ []))
    ∷ kernel_step 0 (Touch 402 Write) (Ok (Serves 401 403 rw false 0)) None
    ∷ kernel_step 0 (Map 1052672 12288 r 306 (negsuc 0) 0) (Ok (Returned 1052672)) (Some (plain 256 257 r ∷ plain 257 260 r ∷ plain 260 261 rw ∷ plain 261 262 rw ∷ plain 262 263 rw ∷ plain 398 401 rw ∷ plain 401 403 rw ∷ []))
    ∷ kernel_step 0 (Touch 0 Write) (Ok (Signal MapErr)) None
    ∷ kernel_step 0 (Touch 399 Write) (Ok (Serves 398 401 rw false 0)) None
    ∷ kernel_step 0 (Map 1056768 4096 r 306 (negsuc 0) 0) (Ok (Returned 1056768)) (Some (plain 256 257 r ∷ plain 257 260 r ∷ plain 260 261 rw ∷ plain 261 262 rw ∷ plain 262 263 rw ∷ plain 398 401 rw ∷ plain 401 403 rw ∷ []))
    ∷ kernel_step 0 (Protect 1073152 4096 rw) (Ok (Returned 0)) (Some (plain 256 257 r ∷ plain 257 260 r ∷ plain 260 261 rw ∷ plain 261 262 rw ∷ plain 262 263 rw ∷ plain 398 401 rw ∷ plain 401 403 rw ∷ []))
    ∷ kernel_step 0 (Remap 1052672 8192 8192 3 1572864) (Ok (Returned 1572864)) (Some (plain 256 257 r ∷ plain 259 260 r ∷ plain 260 261 rw ∷ plain 261 262 rw ∷ plain 262 263 rw ∷ plain 384 386 r ∷ plain 398 401 rw ∷ plain 401 403 rw ∷ []))
    ∷ kernel_step 0 (Map 1060864 16384 rw 50 (negsuc 0) 0) (Ok (Returned 1060864)) (Some (plain 256 257 r ∷ plain 259 263 rw ∷ plain 384 386 r ∷ plain 398 401 rw ∷ plain 401 403 rw ∷ []))
    ∷ kernel_step 0 (Protect 1048576 4096 r) (Ok (Returned 0)) (Some (plain 256 257 r ∷ plain 259 263 rw ∷ plain 384 386 r ∷ plain 398 401 rw ∷ plain 401 403 rw ∷ []))
    ∷ kernel_step 0 (Unmap 1056768 4096) (Ok (Returned 0)) (Some (plain 256 257 r ∷ plain 259 263 rw ∷ plain 384 386 r ∷ plain 398 401 rw ∷ plain 401 403 rw ∷ []))
    ∷ kernel_step 0 (Protect 1056768 12288 rw) (Err 12) (Some (plain 256 257 r ∷ plain 259 263 rw ∷ plain 384 386 r ∷ plain 398 401 rw ∷ plain 401 403 rw ∷ []))
    ∷ []

-- written_1: the kernel
abbrev pub written_1_on : Kernel
written_1_on = record { rules = linux_6_17; machine = record { lowest_built = 16; memory = 245000; stack = 8388608; has_keys = true; huge_always = true; files_are_huge = false; vsyscall = Xonly }; config = config 4096 140737354133504 65530 0 (file_row 3 true true 90000 ∷ file_row 4 false true 20000 ∷ file_row 5 true false 20000 ∷ []) }

-- written_1: its answers
abbrev pub written_1 : List Step
written_1 =
    kernel_step 0 (Map 1060864 12288 rw 50 (negsuc 0) 0) (Ok (Returned 1060864)) (Some (plain 259 262 rw ∷ []))
    ∷ kernel_step 0 (Map 1060864 4096 rw 50 (negsuc 0) 0) (Ok (Returned 1060864)) (Some (plain 259 262 rw ∷ []))
    ∷ kernel_step 0 (Map 1056768 4096 r 50 (negsuc 0) 0) (Ok (Returned 1056768)) (Some (plain 258 259 r ∷ plain 259 262 rw ∷ []))
    ∷ kernel_step 0 (Map 1048576 8192 rw 50 (negsuc 0) 0) (Ok (Returned 1048576)) (Some (plain 256 258 rw ∷ plain 258 259 r ∷ plain 259 262 rw ∷ []))
    ∷ kernel_step 0 (Remap 1048576 8192 8192 3 1638400) (Ok (Returned 1638400)) (Some (plain 258 259 r ∷ plain 259 262 rw ∷ plain 400 402 rw ∷ []))
    ∷ kernel_step 0 (Map 1064960 16384 rw 50 (negsuc 0) 0) (Ok (Returned 1064960)) (Some (plain 258 259 r ∷ plain 259 264 rw ∷ plain 400 402 rw ∷ []))
    ∷ kernel_step 0 (Touch 263 Exec) (Ok (Signal AccErr)) None
    ∷ kernel_step 0 (Touch 258 Write) (Ok (Signal AccErr)) None
    ∷ kernel_step 0 (Touch 260 Write) (Ok (Serves 259 264 rw false 0)) None
    ∷ kernel_step 0 (Map 1056768 4096 r 50 (negsuc 0) 0) (Ok (Returned 1056768)) (Some (plain 258 259 r ∷ plain 259 264 rw ∷ plain 400 402 rw ∷ []))
    ∷ kernel_step 0 (Map 1064960 8192 rw 50 (negsuc 0) 0) (Ok (Returned 1064960)) (Some (plain 258 259 r ∷ plain 259 264 rw ∷ plain 400 402 rw ∷ []))
    ∷ kernel_step 0 (Remap 1638400 8192 8192 3 1048576) (Ok (Returned 1048576)) (Some (plain 256 258 rw ∷ plain 258 259 r ∷ plain 259 264 rw ∷ []))
    ∷ kernel_step 0 (Touch 258 Write) (Ok (Signal AccErr)) None
    ∷ kernel_step 0 (Touch 257 Read) (Ok (Serves 256 258 rw false 0)) None
    ∷ kernel_step 0 (Touch 262 Read) (Ok (Serves 259 264 rw false 0)) None
    ∷ kernel_step 0 (Map 1060864 16384 r 32818 (negsuc 0) 0) (Ok (Returned 1060864)) (Some (plain 256 258 rw ∷ plain 258 263 r ∷ plain 263 264 rw ∷ []))
    ∷ kernel_step 0 (Protect 1056768 16384 r) (Ok (Returned 0)) (Some (plain 256 258 rw ∷ plain 258 263 r ∷ plain 263 264 rw ∷ []))
    ∷ kernel_step 0 (Touch 257 Write) (Ok (Serves 256 258 rw false 0)) None
    ∷ kernel_step 0 (Remap 1048576 8192 8192 3 1638400) (Ok (Returned 1638400)) (Some (plain 258 263 r ∷ plain 263 264 rw ∷ plain 400 402 rw ∷ []))
    ∷ kernel_step 0 (Map 1060864 12288 r 50 (negsuc 0) 0) (Ok (Returned 1060864)) (Some (plain 258 263 r ∷ plain 263 264 rw ∷ plain 400 402 rw ∷ []))
    ∷ kernel_step 0 (Map 1060864 17179869184 rw 50 (negsuc 0) 0) (Err 12) (Some (plain 258 259 r ∷ plain 259 263 r ∷ plain 263 264 rw ∷ plain 400 402 rw ∷ []))
    ∷ kernel_step 0 (Unmap 1056768 4096) (Ok (Returned 0)) (Some (plain 259 263 r ∷ plain 263 264 rw ∷ plain 400 402 rw ∷ []))
    ∷ kernel_step 0 (Map 1064960 34359738368 rw 50 (negsuc 0) 0) (Err 12) (Some (plain 259 260 r ∷ plain 260 263 r ∷ plain 263 264 rw ∷ plain 400 402 rw ∷ []))
    ∷ kernel_step 0 (Protect 1048576 16384 rw) (Err 12) (Some (plain 259 260 r ∷ plain 260 263 r ∷ plain 263 264 rw ∷ plain 400 402 rw ∷ []))
    ∷ kernel_step 0 (Touch 259 Read) (Ok (Serves 259 260 r false 0)) None
    ∷ kernel_step 0 (Unmap 1060864 8192) (Ok (Returned 0)) (Some (plain 261 263 r ∷ plain 263 264 rw ∷ plain 400 402 rw ∷ []))
    ∷ kernel_step 0 (Map 1052672 34359738368 rw 49 (negsuc 0) 0) (Err 12) (Some ([]))
    ∷ kernel_step 0 (Protect 1048576 16384 r) (Err 12) (Some ([]))
    ∷ kernel_step 0 (Remap 1064960 8192 8192 3 1572864) (Err 14) (Some ([]))
    ∷ kernel_step 0 (Unmap 1060864 8192) (Ok (Returned 0)) (Some ([]))
    ∷ []

-- written_9: the kernel
abbrev pub written_9_on : Kernel
written_9_on = record { rules = linux_6_17; machine = record { lowest_built = 16; memory = 245000; stack = 8388608; has_keys = true; huge_always = true; files_are_huge = false; vsyscall = Xonly }; config = config 4096 140737354133504 65530 0 ([]) }

-- written_9: its answers
abbrev pub written_9 : List Step
written_9 =
    kernel_step 0 (Map 1060864 8192 rw 50 (negsuc 0) 0) (Ok (Returned 1060864)) (Some (plain 259 261 rw ∷ []))
    ∷ kernel_step 0 (Map 1056768 12288 rw 50 (negsuc 0) 0) (Ok (Returned 1056768)) (Some (plain 258 261 rw ∷ []))
    ∷ kernel_step 0 (Protect 1048576 4096 rw) (Err 12) (Some (plain 258 261 rw ∷ []))
    ∷ kernel_step 0 (Protect 1056768 8192 rw) (Ok (Returned 0)) (Some (plain 258 261 rw ∷ []))
    ∷ kernel_step 0 (Map 1048576 8192 rw 50 (negsuc 0) 0) (Ok (Returned 1048576)) (Some (plain 256 261 rw ∷ []))
    ∷ kernel_step 0 (Map 1056768 8192 rw 50 (negsuc 0) 0) (Ok (Returned 1056768)) (Some (plain 256 261 rw ∷ []))
    ∷ kernel_step 0 (Protect 1048576 20480 rw) (Ok (Returned 0)) (Some (plain 256 261 rw ∷ []))
    ∷ kernel_step 0 (Touch 258 Write) (Ok (Serves 256 261 rw false 0)) None
    ∷ kernel_step 0 (Protect 1060864 4096 rw) (Ok (Returned 0)) (Some (plain 256 261 rw ∷ []))
    ∷ kernel_step 0 (Map 1064960 12288 rw 50 (negsuc 0) 0) (Ok (Returned 1064960)) (Some (plain 256 263 rw ∷ []))
    ∷ kernel_step 0 (Protect 1056768 8192 rw) (Ok (Returned 0)) (Some (plain 256 263 rw ∷ []))
    ∷ kernel_step 0 (Remap 1056768 16384 16384 3 1609728) (Ok (Returned 1609728)) (Some (plain 256 258 rw ∷ plain 262 263 rw ∷ plain 393 397 rw ∷ []))
    ∷ kernel_step 0 (Remap 1609728 16384 16384 3 1056768) (Ok (Returned 1056768)) (Some (plain 256 263 rw ∷ []))
    ∷ kernel_step 0 (Unmap 1048576 28672) (Ok (Returned 0)) (Some ([]))
    ∷ kernel_step 0 (Touch 260 Read) (Ok (Signal MapErr)) None
    ∷ kernel_step 0 (Protect 1048576 16384 rw) (Err 12) (Some ([]))
    ∷ kernel_step 0 (Remap 1056768 8192 8192 3 1638400) (Err 14) (Some ([]))
    ∷ kernel_step 0 (Map 1064960 8192 rw 50 (negsuc 0) 0) (Ok (Returned 1064960)) (Some (plain 260 262 rw ∷ []))
    ∷ kernel_step 0 (Protect 1056768 4096 rw) (Err 12) (Some (plain 260 262 rw ∷ []))
    ∷ kernel_step 0 (Map 1060864 4096 rw 50 (negsuc 0) 0) (Ok (Returned 1060864)) (Some (plain 259 262 rw ∷ []))
    ∷ kernel_step 0 (Touch 261 Write) (Ok (Serves 259 262 rw false 0)) None
    ∷ kernel_step 0 (Map 1052672 8192 rw 50 (negsuc 0) 0) (Ok (Returned 1052672)) (Some (plain 257 262 rw ∷ []))
    ∷ kernel_step 0 (Remap 1048576 12288 20480 1 0) (Err 14) (Some (plain 257 262 rw ∷ []))
    ∷ kernel_step 0 (Map 1060864 4096 rw 131122 (negsuc 0) 0) (Ok (Returned 1060864)) (Some (plain 257 259 rw ∷ plain 259 260 rw ∷ plain 260 262 rw ∷ []))
    ∷ kernel_step 0 (Touch 257 Write) (Ok (Serves 257 259 rw false 0)) None
    ∷ kernel_step 0 (Touch 258 Write) (Ok (Serves 257 259 rw false 0)) None
    ∷ kernel_step 0 (Protect 1064960 8192 rw) (Ok (Returned 0)) (Some (plain 257 259 rw ∷ plain 259 260 rw ∷ plain 260 262 rw ∷ []))
    ∷ kernel_step 0 (Map 1064960 12288 rw 50 (negsuc 0) 0) (Ok (Returned 1064960)) (Some (plain 257 259 rw ∷ plain 259 260 rw ∷ plain 260 263 rw ∷ []))
    ∷ kernel_step 0 (Touch 259 Write) (Ok (Serves 259 260 rw false 0)) None
    ∷ kernel_step 0 (Touch 260 Write) (Ok (Serves 260 263 rw false 0)) (Some (plain 257 259 rw ∷ plain 259 260 rw ∷ plain 260 263 rw ∷ []))
    ∷ []

-- written_limit_31: the kernel
abbrev pub written_limit_31_on : Kernel
written_limit_31_on = record { rules = linux_6_17; machine = record { lowest_built = 16; memory = 245000; stack = 8388608; has_keys = true; huge_always = true; files_are_huge = false; vsyscall = Xonly }; config = config 4096 140737354133504 6 0 (file_row 3 false true 0 ∷ file_row 4 true true 20000 ∷ []) }

-- written_limit_31: its answers
abbrev pub written_limit_31 : List Step
written_limit_31 =
    kernel_step 0 (Map 1064960 4096 rw 50 (negsuc 0) 0) (Ok (Returned 1064960)) (Some (plain 260 261 rw ∷ []))
    ∷ kernel_step 0 (Map 1056768 4096 rw 50 (negsuc 0) 0) (Ok (Returned 1056768)) (Some (plain 258 259 rw ∷ plain 260 261 rw ∷ []))
    ∷ kernel_step 0 (Touch 258 Write) (Ok (Serves 258 259 rw false 0)) None
    ∷ kernel_step 0 (Touch 260 Write) (Ok (Serves 260 261 rw false 0)) None
    ∷ kernel_step 0 (Remap 1052672 12288 12288 7 1048576) (Err 22) (Some (plain 258 259 rw ∷ plain 260 261 rw ∷ []))
    ∷ kernel_step 0 (Touch 258 Write) (Ok (Serves 258 259 rw false 0)) None
    ∷ kernel_step 0 (Touch 258 Write) (Ok (Serves 258 259 rw false 0)) None
    ∷ kernel_step 0 (Touch 258 Write) (Ok (Serves 258 259 rw false 0)) None
    ∷ kernel_step 0 (Remap 1060864 4096 4096 7 1576960) (Err 12) (Some (plain 258 259 rw ∷ plain 260 261 rw ∷ []))
    ∷ kernel_step 0 (Touch 258 Write) (Ok (Serves 258 259 rw false 0)) None
    ∷ kernel_step 0 (Protect 1056768 4096 rw) (Ok (Returned 0)) (Some (plain 258 259 rw ∷ plain 260 261 rw ∷ []))
    ∷ kernel_step 0 (Fork 1) (Ok (Returned 0)) None
    ∷ kernel_step 1 (Touch 258 Write) (Ok (Serves 258 259 rw false 0)) None
    ∷ kernel_step 1 (Touch 258 Write) (Ok (Serves 258 259 rw false 0)) None
    ∷ kernel_step 0 (Protect 1056768 4096 rw) (Ok (Returned 0)) (Some (plain 258 259 rw ∷ plain 260 261 rw ∷ []))
    ∷ kernel_step 0 (Touch 260 Write) (Ok (Serves 260 261 rw false 0)) None
    ∷ kernel_step 0 (Map 1048576 8192 r 50 (negsuc 0) 0) (Ok (Returned 1048576)) (Some (plain 256 258 r ∷ plain 258 259 rw ∷ plain 260 261 rw ∷ []))
    ∷ kernel_step 1 (Protect 1056768 12288 rwx) (Err 12) (Some (plain 258 259 rwx ∷ plain 260 261 rw ∷ []))
    ∷ kernel_step 0 (Map 1052672 8192 r 50 (negsuc 0) 0) (Ok (Returned 1052672)) (Some (plain 256 259 r ∷ plain 260 261 rw ∷ []))
    ∷ kernel_step 1 (Remap 1576960 4096 4096 3 1060864) (Err 12) (Some (plain 258 259 rwx ∷ plain 260 261 rw ∷ []))
    ∷ kernel_step 0 (Touch 257 Write) (Ok (Signal AccErr)) None
    ∷ kernel_step 0 (Remap 1064960 4096 4096 7 1056768) (Err 12) (Some (plain 256 259 r ∷ plain 260 261 rw ∷ []))
    ∷ kernel_step 0 (Touch 258 Write) (Ok (Signal AccErr)) None
    ∷ kernel_step 1 (Touch 258 Read) (Ok (Serves 258 259 rwx false 0)) None
    ∷ kernel_step 1 (Protect 1056768 4096 rwx) (Ok (Returned 0)) (Some (plain 258 259 rwx ∷ plain 260 261 rw ∷ []))
    ∷ kernel_step 0 (Touch 260 Write) (Ok (Serves 260 261 rw false 0)) None
    ∷ kernel_step 0 (Touch 257 Write) (Ok (Signal AccErr)) None
    ∷ kernel_step 1 (Remap 1048576 8192 8192 3 1052672) (Err 22) (Some (plain 258 259 rwx ∷ plain 260 261 rw ∷ []))
    ∷ kernel_step 0 (Touch 260 Write) (Ok (Serves 260 261 rw false 0)) (Some (plain 256 259 r ∷ plain 260 261 rw ∷ []))
    ∷ kernel_step 1 (Map 1064960 8192 r 50 (negsuc 0) 0) (Ok (Returned 1064960)) (Some (plain 258 259 rwx ∷ plain 260 262 r ∷ []))
    ∷ []

-- hard_limit_45: the kernel
abbrev pub hard_limit_45_on : Kernel
hard_limit_45_on = record { rules = linux_6_17; machine = record { lowest_built = 16; memory = 245000; stack = 8388608; has_keys = true; huge_always = true; files_are_huge = false; vsyscall = Xonly }; config = config 4096 140737354133504 10 0 ([]) }

-- hard_limit_45: its answers
abbrev pub hard_limit_45 : List Step
hard_limit_45 =
    kernel_step 0 (Map 0 8192 rw 33 (negsuc 0) 0) (Ok (Returned 140737354125312)) (Some (filed 34359705597 34359705599 rw true 0 1 ∷ []))
    ∷ kernel_step 0 (Map 1056768 16384 rw 50 (negsuc 0) 0) (Ok (Returned 1056768)) (Some (plain 258 262 rw ∷ filed 34359705597 34359705599 rw true 0 1 ∷ []))
    ∷ kernel_step 0 (Touch 258 Exec) (Ok (Signal AccErr)) None
    ∷ kernel_step 0 (Touch 260 Write) (Ok (Serves 258 262 rw false 0)) None
    ∷ kernel_step 0 (Remap 1060864 4096 4096 5 0) (Ok (Returned 140737354121216)) (Some (plain 258 262 rw ∷ plain 34359705596 34359705597 rw ∷ filed 34359705597 34359705599 rw true 0 1 ∷ []))
    ∷ kernel_step 0 (Remap 1056768 16384 24576 3 1073152) (Ok (Returned 1073152)) (Some (plain 262 268 rw ∷ plain 34359705596 34359705597 rw ∷ filed 34359705597 34359705599 rw true 0 1 ∷ []))
    ∷ kernel_step 0 (Map 0 3145728 rw 34 (negsuc 0) 0) (Ok (Returned 140737350975488)) (Some (plain 262 268 rw ∷ plain 34359704828 34359705596 rw ∷ plain 34359705596 34359705597 rw ∷ filed 34359705597 34359705599 rw true 0 1 ∷ []))
    ∷ kernel_step 0 (Map 0 34359738368 r 34 (negsuc 0) 0) (Ok (Returned 140702990204928)) (Some (plain 262 268 rw ∷ plain 34351315968 34359704576 r ∷ plain 34359704828 34359705596 rw ∷ plain 34359705596 34359705597 rw ∷ filed 34359705597 34359705599 rw true 0 1 ∷ []))
    ∷ kernel_step 0 (Map 0 4194304 rw 34 (negsuc 0) 0) (Ok (Returned 140702986010624)) (Some (plain 262 268 rw ∷ plain 34351314944 34351315968 rw ∷ plain 34351315968 34359704576 r ∷ plain 34359704828 34359705596 rw ∷ plain 34359705596 34359705597 rw ∷ filed 34359705597 34359705599 rw true 0 1 ∷ []))
    ∷ kernel_step 0 (Touch 262 Write) (Ok (Serves 262 268 rw false 0)) None
    ∷ kernel_step 0 (Touch 265 Read) (Ok (Serves 262 268 rw false 0)) None
    ∷ kernel_step 0 (Touch 264 Write) (Ok (Serves 262 268 rw false 0)) None
    ∷ kernel_step 0 (Remap 1073152 24576 24576 7 1105920) (Err 12) (Some (plain 262 268 rw ∷ plain 34351314944 34351315968 rw ∷ plain 34351315968 34359704576 r ∷ plain 34359704828 34359705596 rw ∷ plain 34359705596 34359705597 rw ∷ filed 34359705597 34359705599 rw true 0 1 ∷ []))
    ∷ kernel_step 0 (Unmap 1073152 24576) (Ok (Returned 0)) (Some (plain 34351314944 34351315968 rw ∷ plain 34351315968 34359704576 r ∷ plain 34359704828 34359705596 rw ∷ plain 34359705596 34359705597 rw ∷ filed 34359705597 34359705599 rw true 0 1 ∷ []))
    ∷ kernel_step 0 (Map 0 12288 r 16418 (negsuc 0) 0) (Ok (Returned 140737350963200)) (Some (plain 34351314944 34351315968 rw ∷ plain 34351315968 34359704576 r ∷ plain 34359704825 34359704828 r ∷ plain 34359704828 34359705596 rw ∷ plain 34359705596 34359705597 rw ∷ filed 34359705597 34359705599 rw true 0 1 ∷ []))
    ∷ kernel_step 0 (Protect 140737351020544 3100672 rw) (Ok (Returned 0)) (Some (plain 34351314944 34351315968 rw ∷ plain 34351315968 34359704576 r ∷ plain 34359704825 34359704828 r ∷ plain 34359704828 34359705596 rw ∷ plain 34359705596 34359705597 rw ∷ filed 34359705597 34359705599 rw true 0 1 ∷ []))
    ∷ kernel_step 0 (Map 0 8589934592 rw 34 (negsuc 0) 0) (Err 12) (Some (plain 34351314944 34351315968 rw ∷ plain 34351315968 34359704576 r ∷ plain 34359704825 34359704828 r ∷ plain 34359704828 34359705596 rw ∷ plain 34359705596 34359705597 rw ∷ filed 34359705597 34359705599 rw true 0 1 ∷ []))
    ∷ kernel_step 0 (Touch 34351316955 Write) (Ok (Signal AccErr)) None
    ∷ kernel_step 0 (Map 1093632 8192 rw 50 (negsuc 0) 0) (Ok (Returned 1093632)) (Some (plain 267 269 rw ∷ plain 34351314944 34351315968 rw ∷ plain 34351315968 34359704576 r ∷ plain 34359704825 34359704828 r ∷ plain 34359704828 34359705596 rw ∷ plain 34359705596 34359705597 rw ∷ filed 34359705597 34359705599 rw true 0 1 ∷ []))
    ∷ kernel_step 0 (Touch 268 Read) (Ok (Serves 267 269 rw false 0)) None
    ∷ kernel_step 0 (Touch 267 Write) (Ok (Serves 267 269 rw false 0)) None
    ∷ kernel_step 0 (Touch 267 Write) (Ok (Serves 267 269 rw false 0)) None
    ∷ kernel_step 0 (Touch 268 Write) (Ok (Serves 267 269 rw false 0)) None
    ∷ kernel_step 0 (Remap 1093632 8192 8192 3 1101824) (Err 12) (Some (plain 267 269 rw ∷ plain 34351314944 34351315968 rw ∷ plain 34351315968 34359704576 r ∷ plain 34359704825 34359704828 r ∷ plain 34359704828 34359705596 rw ∷ plain 34359705596 34359705597 rw ∷ filed 34359705597 34359705599 rw true 0 1 ∷ []))
    ∷ kernel_step 0 (Touch 267 Write) (Ok (Serves 267 269 rw false 0)) None
    ∷ kernel_step 0 (Protect 1093632 8192 rw) (Ok (Returned 0)) (Some (plain 267 269 rw ∷ plain 34351314944 34351315968 rw ∷ plain 34351315968 34359704576 r ∷ plain 34359704825 34359704828 r ∷ plain 34359704828 34359705596 rw ∷ plain 34359705596 34359705597 rw ∷ filed 34359705597 34359705599 rw true 0 1 ∷ []))
    ∷ kernel_step 0 (Protect 1101824 4096 r) (Err 12) (Some (plain 267 269 rw ∷ plain 34351314944 34351315968 rw ∷ plain 34351315968 34359704576 r ∷ plain 34359704825 34359704828 r ∷ plain 34359704828 34359705596 rw ∷ plain 34359705596 34359705597 rw ∷ filed 34359705597 34359705599 rw true 0 1 ∷ []))
    ∷ kernel_step 0 (Map 1048576 16384 r 306 (negsuc 0) 0) (Ok (Returned 1048576)) (Some (plain 256 260 r ∷ plain 267 269 rw ∷ plain 34351314944 34351315968 rw ∷ plain 34351315968 34359704576 r ∷ plain 34359704825 34359704828 r ∷ plain 34359704828 34359705596 rw ∷ plain 34359705596 34359705597 rw ∷ filed 34359705597 34359705599 rw true 0 1 ∷ []))
    ∷ kernel_step 0 (Touch 258 Write) (Ok (Signal AccErr)) None
    ∷ kernel_step 0 (Remap 1093632 8192 8192 3 1064960) (Err 12) (Some (plain 256 260 r ∷ plain 267 269 rw ∷ plain 34351314944 34351315968 rw ∷ plain 34351315968 34359704576 r ∷ plain 34359704825 34359704828 r ∷ plain 34359704828 34359705596 rw ∷ plain 34359705596 34359705597 rw ∷ filed 34359705597 34359705599 rw true 0 1 ∷ []))
    ∷ []

-- hard_limit_53: the kernel
abbrev pub hard_limit_53_on : Kernel
hard_limit_53_on = record { rules = linux_6_17; machine = record { lowest_built = 16; memory = 245000; stack = 8388608; has_keys = true; huge_always = true; files_are_huge = false; vsyscall = Xonly }; config = config 4096 140737354133504 12 1048576 ([]) }

-- hard_limit_53: its answers
abbrev pub hard_limit_53 : List Step
hard_limit_53 =
    kernel_step 0 (Map 0 8192 r 34 (negsuc 0) 0) (Ok (Returned 140737354125312)) (Some (plain 34359705597 34359705599 r ∷ []))
    ∷ kernel_step 0 (Map 1073152 16384 rw 50 (negsuc 0) 0) (Ok (Returned 1073152)) (Some (plain 262 266 rw ∷ plain 34359705597 34359705599 r ∷ []))
    ∷ kernel_step 0 (Touch 263 Read) (Ok (Serves 262 266 rw false 0)) None
    ∷ kernel_step 0 (Touch 264 Write) (Ok (Serves 262 266 rw false 0)) None
    ∷ kernel_step 0 (Map 140737354133504 12288 rw 32818 (negsuc 0) 0) (Ok (Returned 140737354133504)) (Some (plain 262 266 rw ∷ plain 34359705597 34359705599 r ∷ plain 34359705599 34359705602 rw ∷ []))
    ∷ kernel_step 0 (Remap 1073152 16384 24576 3 1048576) (Ok (Returned 1048576)) (Some (plain 256 262 rw ∷ plain 34359705597 34359705599 r ∷ plain 34359705599 34359705602 rw ∷ []))
    ∷ kernel_step 0 (Fork 1) (Ok (Returned 0)) None
    ∷ kernel_step 1 (Map 1101824 16384 rw 1048610 (negsuc 0) 0) (Ok (Returned 1101824)) (Some (plain 256 262 rw ∷ plain 269 273 rw ∷ plain 34359705597 34359705599 r ∷ plain 34359705599 34359705602 rw ∷ []))
    ∷ kernel_step 1 (Break 1060856) (Ok (Returned 1048576)) (Some (plain 256 262 rw ∷ plain 269 273 rw ∷ plain 34359705597 34359705599 r ∷ plain 34359705599 34359705602 rw ∷ []))
    ∷ kernel_step 1 (Touch 264 Write) (Ok (Signal MapErr)) None
    ∷ kernel_step 0 (Protect 1110016 8192 rw) (Err 12) (Some (plain 256 262 rw ∷ plain 34359705597 34359705599 r ∷ plain 34359705599 34359705602 rw ∷ []))
    ∷ kernel_step 1 (Remap 1101824 16384 20480 0 0) (Ok (Returned 1101824)) (Some (plain 256 262 rw ∷ plain 269 274 rw ∷ plain 34359705597 34359705599 r ∷ plain 34359705599 34359705602 rw ∷ []))
    ∷ kernel_step 0 (Touch 257 Write) (Ok (Serves 256 262 rw false 0)) None
    ∷ kernel_step 1 (Remap 1101824 4096 8192 0 0) (Err 12) (Some (plain 256 262 rw ∷ plain 269 274 rw ∷ plain 34359705597 34359705599 r ∷ plain 34359705599 34359705602 rw ∷ []))
    ∷ kernel_step 0 (Map 1085440 16384 r 34 (negsuc 0) 0) (Ok (Returned 1085440)) (Some (plain 256 262 rw ∷ plain 265 269 r ∷ plain 34359705597 34359705599 r ∷ plain 34359705599 34359705602 rw ∷ []))
    ∷ kernel_step 1 (Touch 262 Exec) (Ok (Signal MapErr)) None
    ∷ kernel_step 0 (Protect 1093632 8192 rw) (Ok (Returned 0)) (Some (plain 256 262 rw ∷ plain 265 267 r ∷ plain 267 269 rw ∷ plain 34359705597 34359705599 r ∷ plain 34359705599 34359705602 rw ∷ []))
    ∷ kernel_step 1 (Map 1097728 12288 rw 49 (negsuc 0) 0) (Ok (Returned 1097728)) (Some (plain 256 262 rw ∷ filed 268 271 rw true 0 1 ∷ plain 271 274 rw ∷ plain 34359705597 34359705599 r ∷ plain 34359705599 34359705602 rw ∷ []))
    ∷ kernel_step 0 (Protect 1085440 4096 w) (Ok (Returned 0)) (Some (plain 256 262 rw ∷ plain 265 266 w ∷ plain 266 267 r ∷ plain 267 269 rw ∷ plain 34359705597 34359705599 r ∷ plain 34359705599 34359705602 rw ∷ []))
    ∷ kernel_step 0 (Break 1064960) (Ok (Returned 1048576)) (Some (plain 256 262 rw ∷ plain 265 266 w ∷ plain 266 267 r ∷ plain 267 269 rw ∷ plain 34359705597 34359705599 r ∷ plain 34359705599 34359705602 rw ∷ []))
    ∷ kernel_step 0 (Break 1040392) (Ok (Returned 1048576)) (Some (plain 256 262 rw ∷ plain 265 266 w ∷ plain 266 267 r ∷ plain 267 269 rw ∷ plain 34359705597 34359705599 r ∷ plain 34359705599 34359705602 rw ∷ []))
    ∷ kernel_step 0 (Unmap 1085440 20480) (Ok (Returned 0)) (Some (plain 256 262 rw ∷ plain 34359705597 34359705599 r ∷ plain 34359705599 34359705602 rw ∷ []))
    ∷ kernel_step 0 (Touch 260 Write) (Ok (Serves 256 262 rw false 0)) None
    ∷ kernel_step 1 (Break 1036288) (Ok (Returned 1048576)) (Some (plain 256 262 rw ∷ filed 268 271 rw true 0 1 ∷ plain 271 274 rw ∷ plain 34359705597 34359705599 r ∷ plain 34359705599 34359705602 rw ∷ []))
    ∷ kernel_step 0 (Protect 1064960 8192 rx) (Ok (Returned 0)) (Some (plain 256 260 rw ∷ plain 260 262 rx ∷ plain 34359705597 34359705599 r ∷ plain 34359705599 34359705602 rw ∷ []))
    ∷ kernel_step 1 (Map 1032192 16384 none 50 (negsuc 0) 0) (Ok (Returned 1032192)) (Some (plain 252 256 none ∷ plain 256 262 rw ∷ filed 268 271 rw true 0 1 ∷ plain 271 274 rw ∷ plain 34359705597 34359705599 r ∷ plain 34359705599 34359705602 rw ∷ []))
    ∷ kernel_step 1 (Map 1048576 4096 r 50 (negsuc 0) 0) (Ok (Returned 1048576)) (Some (plain 252 256 none ∷ plain 256 257 r ∷ plain 257 262 rw ∷ filed 268 271 rw true 0 1 ∷ plain 271 274 rw ∷ plain 34359705597 34359705599 r ∷ plain 34359705599 34359705602 rw ∷ []))
    ∷ kernel_step 1 (Remap 1097728 4096 8192 3 1040384) (Err 12) (Some (plain 252 256 none ∷ plain 256 257 r ∷ plain 257 262 rw ∷ filed 268 271 rw true 0 1 ∷ plain 271 274 rw ∷ plain 34359705597 34359705599 r ∷ plain 34359705599 34359705602 rw ∷ []))
    ∷ kernel_step 0 (Touch 260 Write) (Ok (Signal AccErr)) (Some (plain 256 260 rw ∷ plain 260 262 rx ∷ plain 34359705597 34359705599 r ∷ plain 34359705599 34359705602 rw ∷ []))
    ∷ kernel_step 1 (Remap 1040384 0 8192 3 1052672) (Err 12) (Some (plain 252 256 none ∷ plain 256 257 r ∷ plain 257 262 rw ∷ filed 268 271 rw true 0 1 ∷ plain 271 274 rw ∷ plain 34359705597 34359705599 r ∷ plain 34359705599 34359705602 rw ∷ []))
    ∷ []

-- hard_limit_69: the kernel
abbrev pub hard_limit_69_on : Kernel
hard_limit_69_on = record { rules = linux_6_17; machine = record { lowest_built = 16; memory = 245000; stack = 8388608; has_keys = true; huge_always = true; files_are_huge = false; vsyscall = Xonly }; config = config 4096 140737354133504 4 1069056 ([]) }

-- hard_limit_69: its answers
abbrev pub hard_limit_69 : List Step
hard_limit_69 =
    kernel_step 0 (Map 1064960 16384 rw 50 (negsuc 0) 0) (Ok (Returned 1064960)) (Some (heap 260 264 rw ∷ []))
    ∷ kernel_step 0 (Map 1077248 12288 rw 34 (negsuc 0) 0) (Ok (Returned 140737354121216)) (Some (heap 260 264 rw ∷ plain 34359705596 34359705599 rw ∷ []))
    ∷ kernel_step 0 (Touch 262 Write) (Ok (Serves 260 264 rw false 0)) None
    ∷ kernel_step 0 (Break 1073152) (Ok (Returned 1069056)) (Some (heap 260 264 rw ∷ plain 34359705596 34359705599 rw ∷ []))
    ∷ kernel_step 0 (Protect 1064960 16384 rw) (Ok (Returned 0)) (Some (heap 260 264 rw ∷ plain 34359705596 34359705599 rw ∷ []))
    ∷ kernel_step 0 (Break 1081344) (Ok (Returned 1069056)) (Some (heap 260 264 rw ∷ plain 34359705596 34359705599 rw ∷ []))
    ∷ kernel_step 0 (Remap 1064960 12288 4096 1 0) (Ok (Returned 1064960)) (Some (plain 260 261 rw ∷ plain 263 264 rw ∷ plain 34359705596 34359705599 rw ∷ []))
    ∷ kernel_step 0 (Protect 1077248 4096 rw) (Ok (Returned 0)) (Some (plain 260 261 rw ∷ plain 263 264 rw ∷ plain 34359705596 34359705599 rw ∷ []))
    ∷ kernel_step 0 (Unmap 1077248 4096) (Ok (Returned 0)) (Some (plain 260 261 rw ∷ plain 34359705596 34359705599 rw ∷ []))
    ∷ kernel_step 0 (Map 140737354133504 8192 r 305 (negsuc 0) 0) (Err 22) (Some (plain 260 261 rw ∷ plain 34359705596 34359705599 rw ∷ []))
    ∷ kernel_step 0 (Protect 1064960 4096 r) (Ok (Returned 0)) (Some (plain 260 261 r ∷ plain 34359705596 34359705599 rw ∷ []))
    ∷ kernel_step 0 (Break 1085432) (Ok (Returned 1085432)) (Some (plain 260 261 r ∷ heap 261 265 rw ∷ plain 34359705596 34359705599 rw ∷ []))
    ∷ kernel_step 0 (Map 1069056 4096 rw 50 (negsuc 0) 0) (Ok (Returned 1069056)) (Some (plain 260 261 r ∷ heap 261 265 rw ∷ plain 34359705596 34359705599 rw ∷ []))
    ∷ kernel_step 0 (Touch 260 Write) (Ok (Signal AccErr)) None
    ∷ kernel_step 0 (Break 1097728) (Ok (Returned 1097728)) (Some (plain 260 261 r ∷ heap 261 268 rw ∷ plain 34359705596 34359705599 rw ∷ []))
    ∷ kernel_step 0 (Unmap 1064960 32768) (Ok (Returned 0)) (Some (plain 34359705596 34359705599 rw ∷ []))
    ∷ kernel_step 0 (Protect 140737354129408 16384 rw) (Err 12) (Some (plain 34359705596 34359705599 rw ∷ []))
    ∷ kernel_step 0 (Break 1085432) (Ok (Returned 1097728)) (Some (plain 34359705596 34359705599 rw ∷ []))
    ∷ kernel_step 0 (Protect 140737354121216 12288 r) (Ok (Returned 0)) (Some (plain 34359705596 34359705599 r ∷ []))
    ∷ kernel_step 0 (Touch 34359705598 Exec) (Ok (Signal AccErr)) None
    ∷ kernel_step 0 (Protect 140737354121216 12288 rw) (Ok (Returned 0)) (Some (plain 34359705596 34359705599 rw ∷ []))
    ∷ kernel_step 0 (Touch 275 Write) (Ok (Signal MapErr)) None
    ∷ kernel_step 0 (Touch 34359705596 Write) (Ok (Serves 34359705596 34359705599 rw false 0)) None
    ∷ kernel_step 0 (Map 1105920 12288 rw 50 (negsuc 0) 0) (Ok (Returned 1105920)) (Some (plain 270 273 rw ∷ plain 34359705596 34359705599 rw ∷ []))
    ∷ kernel_step 0 (Break 1097736) (Ok (Returned 1097736)) (Some (heap 268 269 rw ∷ plain 270 273 rw ∷ plain 34359705596 34359705599 rw ∷ []))
    ∷ kernel_step 0 (Touch 272 Read) (Ok (Serves 270 273 rw false 0)) None
    ∷ kernel_step 0 (Break 1105928) (Ok (Returned 1097736)) (Some (heap 268 269 rw ∷ plain 270 273 rw ∷ plain 34359705596 34359705599 rw ∷ []))
    ∷ kernel_step 0 (Protect 1097728 4096 r) (Ok (Returned 0)) (Some (heap 268 269 r ∷ plain 270 273 rw ∷ plain 34359705596 34359705599 rw ∷ []))
    ∷ kernel_step 0 (Break 1101840) (Ok (Returned 1097736)) (Some (heap 268 269 r ∷ plain 270 273 rw ∷ plain 34359705596 34359705599 rw ∷ []))
    ∷ kernel_step 0 (Touch 271 Read) (Ok (Serves 270 273 rw false 0)) (Some (heap 268 269 r ∷ plain 270 273 rw ∷ plain 34359705596 34359705599 rw ∷ []))
    ∷ []

-- hard_limit_77: the kernel
abbrev pub hard_limit_77_on : Kernel
hard_limit_77_on = record { rules = linux_6_17; machine = record { lowest_built = 16; memory = 245000; stack = 8388608; has_keys = true; huge_always = true; files_are_huge = false; vsyscall = Xonly }; config = config 4096 140737354133504 6 1077248 (file_row 3 true true 90000 ∷ file_row 4 true true 0 ∷ file_row 5 true true 90000 ∷ []) }

-- hard_limit_77: its answers
abbrev pub hard_limit_77 : List Step
hard_limit_77 =
    kernel_step 0 (Map 1081344 12288 none 50 (negsuc 0) 0) (Ok (Returned 1081344)) (Some (plain 264 267 none ∷ []))
    ∷ kernel_step 0 (Map 1069056 12288 rw 34 (negsuc 0) 0) (Ok (Returned 1069056)) (Some (heap 261 264 rw ∷ plain 264 267 none ∷ []))
    ∷ kernel_step 0 (Unmap 1069056 8192) (Ok (Returned 0)) (Some (plain 263 264 rw ∷ plain 264 267 none ∷ []))
    ∷ kernel_step 0 (Break 1093632) (Ok (Returned 1077248)) (Some (plain 263 264 rw ∷ plain 264 267 none ∷ []))
    ∷ kernel_step 0 (Protect 1081344 12288 rx) (Ok (Returned 0)) (Some (plain 263 264 rw ∷ plain 264 267 rx ∷ []))
    ∷ kernel_step 0 (Touch 263 Write) (Ok (Serves 263 264 rw false 0)) None
    ∷ kernel_step 0 (Break 1069064) (Ok (Returned 1077248)) (Some (plain 263 264 rw ∷ plain 264 267 rx ∷ []))
    ∷ kernel_step 0 (Protect 1077248 4096 rwx) (Ok (Returned 0)) (Some (plain 263 264 rwx ∷ plain 264 267 rx ∷ []))
    ∷ kernel_step 0 (Map 1060864 16384 rw 16434 (negsuc 0) 0) (Ok (Returned 1060864)) (Some (plain 259 263 rw ∷ plain 263 264 rwx ∷ plain 264 267 rx ∷ []))
    ∷ kernel_step 0 (Protect 1077248 12288 x) (Ok (Returned 0)) (Some (plain 259 263 rw ∷ plain 263 264 x ∷ plain 264 266 x ∷ plain 266 267 rx ∷ []))
    ∷ kernel_step 0 (Map 1089536 8192 x 49 (negsuc 0) 0) (Ok (Returned 1089536)) (Some (plain 259 263 rw ∷ plain 263 264 x ∷ plain 264 266 x ∷ filed 266 268 x true 0 4 ∷ []))
    ∷ kernel_step 0 (Unmap 1060864 16384) (Ok (Returned 0)) (Some (plain 263 264 x ∷ plain 264 266 x ∷ filed 266 268 x true 0 4 ∷ []))
    ∷ kernel_step 0 (Break 1081352) (Ok (Returned 1077248)) (Some (plain 263 264 x ∷ plain 264 266 x ∷ filed 266 268 x true 0 4 ∷ []))
    ∷ kernel_step 0 (Break 1085432) (Ok (Returned 1077248)) (Some (plain 263 264 x ∷ plain 264 266 x ∷ filed 266 268 x true 0 4 ∷ []))
    ∷ kernel_step 0 (Protect 1077248 4096 r) (Ok (Returned 0)) (Some (plain 263 264 r ∷ plain 264 266 x ∷ filed 266 268 x true 0 4 ∷ []))
    ∷ kernel_step 0 (Touch 264 Write) (Ok (Signal PkuErr)) None
    ∷ kernel_step 0 (Remap 1081344 8192 8192 3 1073152) (Err 12) (Some (plain 263 264 r ∷ plain 264 266 x ∷ filed 266 268 x true 0 4 ∷ []))
    ∷ kernel_step 0 (Protect 1089536 8192 rx) (Ok (Returned 0)) (Some (plain 263 264 r ∷ plain 264 266 x ∷ filed 266 268 rx true 0 4 ∷ []))
    ∷ kernel_step 0 (Touch 263 Read) (Ok (Serves 263 264 r false 0)) None
    ∷ kernel_step 0 (Protect 1081344 8192 x) (Ok (Returned 0)) (Some (plain 263 264 r ∷ plain 264 266 x ∷ filed 266 268 rx true 0 4 ∷ []))
    ∷ kernel_step 0 (Protect 1089536 24576 rwx) (Err 12) (Some (plain 263 264 r ∷ plain 264 266 x ∷ filed 266 268 rwx true 0 4 ∷ []))
    ∷ kernel_step 0 (Unmap 1089536 8192) (Ok (Returned 0)) (Some (plain 263 264 r ∷ plain 264 266 x ∷ []))
    ∷ kernel_step 0 (Touch 263 Write) (Ok (Signal AccErr)) None
    ∷ kernel_step 0 (Map 1097728 12288 x 1 (pos 5) 8192) (Ok (Returned 1097728)) (Some (plain 263 264 r ∷ plain 264 266 x ∷ filed 268 271 x true 8192 3 ∷ []))
    ∷ kernel_step 0 (Map 1101824 12288 rw 32818 (negsuc 0) 0) (Ok (Returned 1101824)) (Some (plain 263 264 r ∷ plain 264 266 x ∷ filed 268 269 x true 8192 3 ∷ plain 269 272 rw ∷ []))
    ∷ kernel_step 0 (Map 1069056 8192 rwx 50 (negsuc 0) 0) (Ok (Returned 1069056)) (Some (plain 261 263 rwx ∷ plain 263 264 r ∷ plain 264 266 x ∷ filed 268 269 x true 8192 3 ∷ plain 269 272 rw ∷ []))
    ∷ kernel_step 0 (Break 1073152) (Ok (Returned 1077248)) (Some (plain 261 263 rwx ∷ plain 263 264 r ∷ plain 264 266 x ∷ filed 268 269 x true 8192 3 ∷ plain 269 272 rw ∷ []))
    ∷ kernel_step 0 (Touch 266 Exec) (Ok (Signal MapErr)) None
    ∷ kernel_step 0 (Map 1122304 8192 rw 50 (negsuc 0) 0) (Ok (Returned 1122304)) (Some (plain 261 263 rwx ∷ plain 263 264 r ∷ plain 264 266 x ∷ filed 268 269 x true 8192 3 ∷ plain 269 272 rw ∷ plain 274 276 rw ∷ []))
    ∷ kernel_step 0 (Remap 1122304 8192 8192 3 1073152) (Err 12) (Some (plain 261 263 rwx ∷ plain 263 264 r ∷ plain 264 266 x ∷ filed 268 269 x true 8192 3 ∷ plain 269 272 rw ∷ plain 274 276 rw ∷ []))
    ∷ []

-- written_100: the kernel
abbrev pub written_100_on : Kernel
written_100_on = record { rules = linux_6_17; machine = record { lowest_built = 16; memory = 245000; stack = 8388608; has_keys = true; huge_always = true; files_are_huge = false; vsyscall = Xonly }; config = config 4096 140737354133504 65530 0 (file_row 3 true false 20000 ∷ file_row 4 true true 0 ∷ file_row 5 true false 0 ∷ []) }

-- written_100: its answers
abbrev pub written_100 : List Step
written_100 =
    kernel_step 0 (Map 1048576 4096 r 50 (negsuc 0) 0) (Ok (Returned 1048576)) (Some (plain 256 257 r ∷ []))
    ∷ kernel_step 0 (Map 1052672 12288 rw 50 (negsuc 0) 0) (Ok (Returned 1052672)) (Some (plain 256 257 r ∷ plain 257 260 rw ∷ []))
    ∷ kernel_step 0 (Remap 1048576 4096 4096 3 1642496) (Ok (Returned 1642496)) (Some (plain 257 260 rw ∷ plain 401 402 r ∷ []))
    ∷ kernel_step 0 (Touch 401 Write) (Ok (Signal AccErr)) None
    ∷ kernel_step 0 (Protect 1052672 8192 rw) (Ok (Returned 0)) (Some (plain 257 260 rw ∷ plain 401 402 r ∷ []))
    ∷ kernel_step 0 (Map 1048576 12288 r 50 (negsuc 0) 0) (Ok (Returned 1048576)) (Some (plain 256 259 r ∷ plain 259 260 rw ∷ plain 401 402 r ∷ []))
    ∷ kernel_step 0 (Remap 1642496 4096 4096 3 1048576) (Ok (Returned 1048576)) (Some (plain 256 259 r ∷ plain 259 260 rw ∷ []))
    ∷ kernel_step 0 (Protect 1052672 12288 r) (Ok (Returned 0)) (Some (plain 256 260 r ∷ []))
    ∷ kernel_step 0 (Touch 256 Read) (Ok (Serves 256 260 r false 0)) None
    ∷ kernel_step 0 (Protect 1048576 12288 rw) (Ok (Returned 0)) (Some (plain 256 259 rw ∷ plain 259 260 r ∷ []))
    ∷ kernel_step 0 (Touch 258 Write) (Ok (Serves 256 259 rw false 0)) None
    ∷ kernel_step 0 (Touch 259 Read) (Ok (Serves 259 260 r false 0)) None
    ∷ kernel_step 0 (Map 1052672 8192 r 131122 (negsuc 0) 0) (Ok (Returned 1052672)) (Some (plain 256 257 rw ∷ plain 257 259 r ∷ plain 259 260 r ∷ []))
    ∷ kernel_step 0 (Touch 256 Write) (Ok (Serves 256 257 rw false 0)) None
    ∷ kernel_step 0 (Touch 258 Write) (Ok (Signal AccErr)) None
    ∷ kernel_step 0 (Touch 257 Write) (Ok (Signal AccErr)) None
    ∷ kernel_step 0 (Remap 1069056 8192 20480 1 0) (Err 14) (Some (plain 256 257 rw ∷ plain 257 259 r ∷ plain 259 260 r ∷ []))
    ∷ kernel_step 0 (Touch 259 Write) (Ok (Signal AccErr)) None
    ∷ kernel_step 0 (Protect 1089536 12288 r) (Err 12) (Some (plain 256 257 rw ∷ plain 257 259 r ∷ plain 259 260 r ∷ []))
    ∷ kernel_step 0 (Protect 1089536 12288 r) (Err 12) (Some (plain 256 257 rw ∷ plain 257 259 r ∷ plain 259 260 r ∷ []))
    ∷ kernel_step 0 (Touch 261 Write) (Ok (Signal MapErr)) None
    ∷ kernel_step 0 (Map 1069056 4096 rw 50 (negsuc 0) 0) (Ok (Returned 1069056)) (Some (plain 256 257 rw ∷ plain 257 259 r ∷ plain 259 260 r ∷ plain 261 262 rw ∷ []))
    ∷ kernel_step 0 (Map 1077248 16384 rw 50 (negsuc 0) 0) (Ok (Returned 1077248)) (Some (plain 256 257 rw ∷ plain 257 259 r ∷ plain 259 260 r ∷ plain 261 262 rw ∷ plain 263 267 rw ∷ []))
    ∷ kernel_step 0 (Protect 1069056 4096 r) (Ok (Returned 0)) (Some (plain 256 257 rw ∷ plain 257 259 r ∷ plain 259 260 r ∷ plain 261 262 r ∷ plain 263 267 rw ∷ []))
    ∷ kernel_step 0 (Touch 263 Exec) (Ok (Signal AccErr)) None
    ∷ kernel_step 0 (Unmap 1073152 4096) (Ok (Returned 0)) (Some (plain 256 257 rw ∷ plain 257 259 r ∷ plain 259 260 r ∷ plain 261 262 r ∷ plain 263 267 rw ∷ []))
    ∷ kernel_step 0 (Touch 264 Read) (Ok (Serves 263 267 rw false 0)) None
    ∷ kernel_step 0 (Protect 1056768 4096 rw) (Ok (Returned 0)) (Some (plain 256 257 rw ∷ plain 257 258 r ∷ plain 258 259 rw ∷ plain 259 260 r ∷ plain 261 262 r ∷ plain 263 267 rw ∷ []))
    ∷ kernel_step 0 (Map 1056768 8192 r 50 (negsuc 0) 0) (Ok (Returned 1056768)) (Some (plain 256 257 rw ∷ plain 257 258 r ∷ plain 258 260 r ∷ plain 261 262 r ∷ plain 263 267 rw ∷ []))
    ∷ kernel_step 0 (Touch 256 Read) (Ok (Serves 256 257 rw false 0)) (Some (plain 256 257 rw ∷ plain 257 258 r ∷ plain 258 260 r ∷ plain 261 262 r ∷ plain 263 267 rw ∷ []))
    ∷ []

-- written_126: the kernel
abbrev pub written_126_on : Kernel
written_126_on = record { rules = linux_6_17; machine = record { lowest_built = 16; memory = 245000; stack = 8388608; has_keys = true; huge_always = true; files_are_huge = false; vsyscall = Xonly }; config = config 4096 140737354133504 65530 0 ([]) }

-- written_126: its answers
abbrev pub written_126 : List Step
written_126 =
    kernel_step 0 (Map 1064960 16384 rw 50 (negsuc 0) 0) (Ok (Returned 1064960)) (Some (plain 260 264 rw ∷ []))
    ∷ kernel_step 0 (Map 1048576 16384 rw 50 (negsuc 0) 0) (Ok (Returned 1048576)) (Some (plain 256 264 rw ∷ []))
    ∷ kernel_step 0 (Protect 1048576 32768 rw) (Ok (Returned 0)) (Some (plain 256 264 rw ∷ []))
    ∷ kernel_step 0 (Map 1048576 4096 rw 50 (negsuc 0) 0) (Ok (Returned 1048576)) (Some (plain 256 264 rw ∷ []))
    ∷ kernel_step 0 (Touch 261 Write) (Ok (Serves 256 264 rw false 0)) None
    ∷ kernel_step 0 (Protect 1073152 16384 rw) (Err 12) (Some (plain 256 264 rw ∷ []))
    ∷ kernel_step 0 (Remap 1048576 24576 24576 3 1609728) (Ok (Returned 1609728)) (Some (plain 262 264 rw ∷ plain 393 399 rw ∷ []))
    ∷ kernel_step 0 (Touch 262 Write) (Ok (Serves 262 264 rw false 0)) None
    ∷ kernel_step 0 (Remap 1060864 4096 8192 1 0) (Err 14) (Some (plain 262 264 rw ∷ plain 393 399 rw ∷ []))
    ∷ kernel_step 0 (Touch 395 Read) (Ok (Serves 393 399 rw false 0)) None
    ∷ kernel_step 0 (Touch 262 Write) (Ok (Serves 262 264 rw false 0)) None
    ∷ kernel_step 0 (Protect 1048576 16384 rw) (Err 12) (Some (plain 262 264 rw ∷ plain 393 399 rw ∷ []))
    ∷ kernel_step 0 (Map 1052672 4096 rw 50 (negsuc 0) 0) (Ok (Returned 1052672)) (Some (plain 257 258 rw ∷ plain 262 264 rw ∷ plain 393 399 rw ∷ []))
    ∷ kernel_step 0 (Protect 1060864 12288 rw) (Err 12) (Some (plain 257 258 rw ∷ plain 262 264 rw ∷ plain 393 399 rw ∷ []))
    ∷ kernel_step 0 (Remap 1073152 16384 16384 3 1572864) (Ok (Returned 1572864)) (Some (plain 257 258 rw ∷ plain 384 386 rw ∷ plain 393 399 rw ∷ []))
    ∷ kernel_step 0 (Remap 1052672 4096 4096 3 1064960) (Ok (Returned 1064960)) (Some (plain 260 261 rw ∷ plain 384 386 rw ∷ plain 393 399 rw ∷ []))
    ∷ kernel_step 0 (Map 1048576 8192 rw 50 (negsuc 0) 0) (Ok (Returned 1048576)) (Some (plain 256 258 rw ∷ plain 260 261 rw ∷ plain 384 386 rw ∷ plain 393 399 rw ∷ []))
    ∷ kernel_step 0 (Remap 1060864 8192 16384 3 1069056) (Err 14) (Some (plain 256 258 rw ∷ plain 260 261 rw ∷ plain 384 386 rw ∷ plain 393 399 rw ∷ []))
    ∷ kernel_step 0 (Touch 257 Write) (Ok (Serves 256 258 rw false 0)) None
    ∷ kernel_step 0 (Touch 256 Write) (Ok (Serves 256 258 rw false 0)) None
    ∷ kernel_step 0 (Map 1077248 8192 rw 50 (negsuc 0) 0) (Ok (Returned 1077248)) (Some (plain 256 258 rw ∷ plain 260 261 rw ∷ plain 263 265 rw ∷ plain 384 386 rw ∷ plain 393 399 rw ∷ []))
    ∷ kernel_step 0 (Protect 1081344 4096 rw) (Ok (Returned 0)) (Some (plain 256 258 rw ∷ plain 260 261 rw ∷ plain 263 265 rw ∷ plain 384 386 rw ∷ plain 393 399 rw ∷ []))
    ∷ kernel_step 0 (Remap 1572864 16384 16384 3 1073152) (Ok (Returned 1073152)) (Some (plain 256 258 rw ∷ plain 260 261 rw ∷ plain 262 265 rw ∷ plain 393 399 rw ∷ []))
    ∷ kernel_step 0 (Fork 1) (Ok (Returned 0)) None
    ∷ kernel_step 0 (Touch 260 Write) (Ok (Serves 260 261 rw false 0)) None
    ∷ kernel_step 0 (Protect 1056768 8192 rw) (Err 12) (Some (plain 256 258 rw ∷ plain 260 261 rw ∷ plain 262 265 rw ∷ plain 393 399 rw ∷ []))
    ∷ kernel_step 1 (Touch 260 Write) (Ok (Serves 260 261 rw false 0)) None
    ∷ kernel_step 1 (Map 1077248 8192 rw 50 (negsuc 0) 0) (Ok (Returned 1077248)) (Some (plain 256 258 rw ∷ plain 260 261 rw ∷ plain 262 265 rw ∷ plain 393 399 rw ∷ []))
    ∷ kernel_step 1 (Touch 396 Write) (Ok (Serves 393 399 rw false 0)) (Some (plain 256 258 rw ∷ plain 260 261 rw ∷ plain 262 265 rw ∷ plain 393 399 rw ∷ []))
    ∷ kernel_step 0 (Remap 1622016 12288 12288 3 1060864) (Ok (Returned 1060864)) (Some (plain 256 258 rw ∷ plain 259 265 rw ∷ plain 393 396 rw ∷ []))
    ∷ []

-- The definitions answer all of these traces as Linux 6.17.13 did.
pub record AllOfLinux_6_17 : Type 0 where
  pub hard_3_holds : IsAsRecorded hard_3_on hard_3
  pub sealed_10_holds : IsAsRecorded sealed_10_on sealed_10
  pub written_28_holds : IsAsRecorded written_28_on written_28
  pub sealed_34_holds : IsAsRecorded sealed_34_on sealed_34
  pub hard_40_holds : IsAsRecorded hard_40_on hard_40
  pub written_57_holds : IsAsRecorded written_57_on written_57
  pub written_68_holds : IsAsRecorded written_68_on written_68
  pub written_78_holds : IsAsRecorded written_78_on written_78
  pub written_92_holds : IsAsRecorded written_92_on written_92
  pub hard_limit_109_holds : IsAsRecorded hard_limit_109_on hard_limit_109
  pub hard_115_holds : IsAsRecorded hard_115_on hard_115
  pub written_121_holds : IsAsRecorded written_121_on written_121
  pub written_limit_127_holds : IsAsRecorded written_limit_127_on written_limit_127
  pub written_limit_151_holds : IsAsRecorded written_limit_151_on written_limit_151
  pub hard_160_holds : IsAsRecorded hard_160_on hard_160
  pub written_166_holds : IsAsRecorded written_166_on written_166
  pub hard_200_holds : IsAsRecorded hard_200_on hard_200
  pub written_217_holds : IsAsRecorded written_217_on written_217
  pub written_222_holds : IsAsRecorded written_222_on written_222
  pub hard_limit_237_holds : IsAsRecorded hard_limit_237_on hard_limit_237
  pub hard_240_holds : IsAsRecorded hard_240_on hard_240
  pub hard_243_holds : IsAsRecorded hard_243_on hard_243
  pub written_limit_319_holds : IsAsRecorded written_limit_319_on written_limit_319
  pub hard_331_holds : IsAsRecorded hard_331_on hard_331
  pub written_361_holds : IsAsRecorded written_361_on written_361
  pub sealed_410_holds : IsAsRecorded sealed_410_on sealed_410
  pub written_433_holds : IsAsRecorded written_433_on written_433
  pub hard_499_holds : IsAsRecorded hard_499_on hard_499
  pub written_532_holds : IsAsRecorded written_532_on written_532
  pub written_566_holds : IsAsRecorded written_566_on written_566
  pub written_609_holds : IsAsRecorded written_609_on written_609
  pub written_1_holds : IsAsRecorded written_1_on written_1
  pub written_9_holds : IsAsRecorded written_9_on written_9
  pub written_limit_31_holds : IsAsRecorded written_limit_31_on written_limit_31
  pub hard_limit_45_holds : IsAsRecorded hard_limit_45_on hard_limit_45
  pub hard_limit_53_holds : IsAsRecorded hard_limit_53_on hard_limit_53
  pub hard_limit_69_holds : IsAsRecorded hard_limit_69_on hard_limit_69
  pub hard_limit_77_holds : IsAsRecorded hard_limit_77_on hard_limit_77
  pub written_100_holds : IsAsRecorded written_100_on written_100
  pub written_126_holds : IsAsRecorded written_126_on written_126
