-- What Linux 6.16.12 answered to 40 traces. Made by dev/make-linux-rules from suite/.
use Rattle.std.specs.Prelude.{List, ◌∷◌, [], true, false, pos, negsuc, Some, None, Ok, Err}
use Rattle.mm_types.specs.declared.area.Access.TheVariants.{Read, Write, Exec}
use Rattle.linux_rules.specs.declared.kernel.Kernel.{Kernel}
use Rattle.linux_rules.specs.declared.kernel.Vsyscall.TheVariants.{Xonly}
use Rattle.linux_rules.specs.declared.verdict.LinuxVerdict.TheVariants.{MapErr, AccErr, PkuErr, BusErr}
use Rattle.linux_rules.specs.Versions.{linux_6_16}
use Rattle.linux_rules.specs.Steps.{Map, Unmap, Protect, Remap, Break, Seal, Touch, Fork, Returned, Serves, Signal, Step, none, r, w, x, rw, rx, rwx, plain, heap, filed, kernel_step, file_row, config}
use Rattle.linux_rules.specs.Recorded.{IsAsRecorded}

-- written_1: the kernel
abbrev pub written_1_on : Kernel
written_1_on = record { rules = linux_6_16; machine = record { lowest_built = 16; memory = 245000; stack = 8388608; has_keys = true; huge_always = true; files_are_huge = false; vsyscall = Xonly }; config = config 4096 140737354133504 65530 0 (file_row 3 true true 90000 ∷ file_row 4 false true 20000 ∷ file_row 5 true false 20000 ∷ []) }

-- written_1: its answers
abbrev pub written_1 : List Step
written_1 =
    kernel_step 0 (Map 1060864 12288 rw 50 (negsuc 0) 0) (Ok (Returned 1060864)) (Some (plain 259 262 rw ∷ []))
    ∷ kernel_step 0 (Map 1060864 4096 rw 50 (negsuc 0) 0) (Ok (Returned 1060864)) (Some (plain 259 262 rw ∷ []))
    ∷ kernel_step 0 (Map 1056768 4096 r 50 (negsuc 0) 0) (Ok (Returned 1056768)) (Some (plain 258 259 r ∷ plain 259 262 rw ∷ []))
    ∷ kernel_step 0 (Map 1048576 8192 rw 50 (negsuc 0) 0) (Ok (Returned 1048576)) (Some (plain 256 258 rw ∷ plain 258 259 r ∷ plain 259 262 rw ∷ []))
    ∷ kernel_step 0 (Remap 1048576 8192 8192 3 1638400) (Ok (Returned 1638400)) (Some (plain 258 259 r ∷ plain 259 262 rw ∷ plain 400 402 rw ∷ []))
    ∷ kernel_step 0 (Map 1064960 16384 rw 50 (negsuc 0) 0) (Ok (Returned 1064960)) (Some (plain 258 259 r ∷ plain 259 264 rw ∷ plain 400 402 rw ∷ []))
    ∷ kernel_step 0 (Touch 263 Exec) (Ok (Signal AccErr)) None
    ∷ kernel_step 0 (Touch 258 Write) (Ok (Signal AccErr)) None
    ∷ kernel_step 0 (Touch 260 Write) (Ok (Serves 259 264 rw false 0)) None
    ∷ kernel_step 0 (Map 1056768 4096 r 50 (negsuc 0) 0) (Ok (Returned 1056768)) (Some (plain 258 259 r ∷ plain 259 264 rw ∷ plain 400 402 rw ∷ []))
    ∷ kernel_step 0 (Map 1064960 8192 rw 50 (negsuc 0) 0) (Ok (Returned 1064960)) (Some (plain 258 259 r ∷ plain 259 264 rw ∷ plain 400 402 rw ∷ []))
    ∷ kernel_step 0 (Remap 1638400 8192 8192 3 1048576) (Ok (Returned 1048576)) (Some (plain 256 258 rw ∷ plain 258 259 r ∷ plain 259 264 rw ∷ []))
    ∷ kernel_step 0 (Touch 258 Write) (Ok (Signal AccErr)) None
    ∷ kernel_step 0 (Touch 257 Read) (Ok (Serves 256 258 rw false 0)) None
    ∷ kernel_step 0 (Touch 262 Read) (Ok (Serves 259 264 rw false 0)) None
    ∷ kernel_step 0 (Map 1060864 16384 r 32818 (negsuc 0) 0) (Ok (Returned 1060864)) (Some (plain 256 258 rw ∷ plain 258 263 r ∷ plain 263 264 rw ∷ []))
    ∷ kernel_step 0 (Protect 1056768 16384 r) (Ok (Returned 0)) (Some (plain 256 258 rw ∷ plain 258 263 r ∷ plain 263 264 rw ∷ []))
    ∷ kernel_step 0 (Touch 257 Write) (Ok (Serves 256 258 rw false 0)) None
    ∷ kernel_step 0 (Remap 1048576 8192 8192 3 1638400) (Ok (Returned 1638400)) (Some (plain 258 263 r ∷ plain 263 264 rw ∷ plain 400 402 rw ∷ []))
    ∷ kernel_step 0 (Map 1060864 12288 r 50 (negsuc 0) 0) (Ok (Returned 1060864)) (Some (plain 258 263 r ∷ plain 263 264 rw ∷ plain 400 402 rw ∷ []))
    ∷ kernel_step 0 (Map 1060864 17179869184 rw 50 (negsuc 0) 0) (Err 12) (Some (plain 258 259 r ∷ plain 259 263 r ∷ plain 263 264 rw ∷ plain 400 402 rw ∷ []))
    ∷ kernel_step 0 (Unmap 1056768 4096) (Ok (Returned 0)) (Some (plain 259 263 r ∷ plain 263 264 rw ∷ plain 400 402 rw ∷ []))
    ∷ kernel_step 0 (Map 1064960 34359738368 rw 50 (negsuc 0) 0) (Err 12) (Some (plain 259 260 r ∷ plain 260 263 r ∷ plain 263 264 rw ∷ plain 400 402 rw ∷ []))
    ∷ kernel_step 0 (Protect 1048576 16384 rw) (Err 12) (Some (plain 259 260 r ∷ plain 260 263 r ∷ plain 263 264 rw ∷ plain 400 402 rw ∷ []))
    ∷ kernel_step 0 (Touch 259 Read) (Ok (Serves 259 260 r false 0)) None
    ∷ kernel_step 0 (Unmap 1060864 8192) (Ok (Returned 0)) (Some (plain 261 263 r ∷ plain 263 264 rw ∷ plain 400 402 rw ∷ []))
    ∷ kernel_step 0 (Map 1052672 34359738368 rw 49 (negsuc 0) 0) (Err 12) (Some ([]))
    ∷ kernel_step 0 (Protect 1048576 16384 r) (Err 12) (Some ([]))
    ∷ kernel_step 0 (Remap 1064960 8192 8192 3 1572864) (Err 14) (Some ([]))
    ∷ kernel_step 0 (Unmap 1060864 8192) (Ok (Returned 0)) (Some ([]))
    ∷ []

-- hard_3: the kernel
abbrev pub hard_3_on : Kernel
hard_3_on = record { rules = linux_6_16; machine = record { lowest_built = 16; memory = 245000; stack = 8388608; has_keys = true; huge_always = true; files_are_huge = false; vsyscall = Xonly }; config = config 4096 140737354133504 65530 0 ([]) }

-- hard_3: its answers
abbrev pub hard_3 : List Step
hard_3 =
    kernel_step 0 (Map 1097728 12288 rw 50 (negsuc 0) 0) (Ok (Returned 1097728)) (Some (plain 268 271 rw ∷ []))
    ∷ kernel_step 0 (Map 1097728 12288 rw 50 (negsuc 0) 0) (Ok (Returned 1097728)) (Some (plain 268 271 rw ∷ []))
    ∷ kernel_step 0 (Remap 1097728 12288 8192 0 0) (Ok (Returned 1097728)) (Some (plain 268 270 rw ∷ []))
    ∷ kernel_step 0 (Remap 1097728 4096 8192 3 1105920) (Ok (Returned 1105920)) (Some (plain 269 272 rw ∷ []))
    ∷ kernel_step 0 (Touch 274 Read) (Ok (Signal MapErr)) None
    ∷ kernel_step 0 (Map 1085440 16384 rw 49 (negsuc 0) 0) (Ok (Returned 1085440)) (Some (filed 265 269 rw true 0 1 ∷ plain 269 272 rw ∷ []))
    ∷ kernel_step 0 (Protect 1060864 8192 rw) (Err 12) (Some (filed 265 269 rw true 0 1 ∷ plain 269 272 rw ∷ []))
    ∷ kernel_step 0 (Protect 1085440 16384 r) (Ok (Returned 0)) (Some (filed 265 269 r true 0 1 ∷ plain 269 272 rw ∷ []))
    ∷ kernel_step 0 (Remap 1085440 16384 24576 1 0) (Ok (Returned 140737354108928)) (Some (plain 269 272 rw ∷ filed 34359705593 34359705599 r true 0 1 ∷ []))
    ∷ kernel_step 0 (Map 1105920 4096 rw 1048610 (negsuc 0) 0) (Err 17) (Some (plain 269 272 rw ∷ filed 34359705593 34359705599 r true 0 1 ∷ []))
    ∷ kernel_step 0 (Touch 270 Write) (Ok (Serves 269 272 rw false 0)) None
    ∷ kernel_step 0 (Protect 1101824 4096 r) (Ok (Returned 0)) (Some (plain 269 270 r ∷ plain 270 272 rw ∷ filed 34359705593 34359705599 r true 0 1 ∷ []))
    ∷ kernel_step 0 (Map 1064960 12288 rw 50 (negsuc 0) 0) (Ok (Returned 1064960)) (Some (plain 260 263 rw ∷ plain 269 270 r ∷ plain 270 272 rw ∷ filed 34359705593 34359705599 r true 0 1 ∷ []))
    ∷ kernel_step 0 (Map 1097728 4096 r 50 (negsuc 0) 0) (Ok (Returned 1097728)) (Some (plain 260 263 rw ∷ plain 268 269 r ∷ plain 269 270 r ∷ plain 270 272 rw ∷ filed 34359705593 34359705599 r true 0 1 ∷ []))
    ∷ kernel_step 0 (Touch 271 Write) (Ok (Serves 270 272 rw false 0)) None
    ∷ kernel_step 0 (Touch 264 Write) (Ok (Signal MapErr)) None
    ∷ kernel_step 0 (Map 1064960 12288 r 32802 (negsuc 0) 0) (Ok (Returned 140737354096640)) (Some (plain 260 263 rw ∷ plain 268 269 r ∷ plain 269 270 r ∷ plain 270 272 rw ∷ plain 34359705590 34359705593 r ∷ filed 34359705593 34359705599 r true 0 1 ∷ []))
    ∷ kernel_step 0 (Touch 270 Write) (Ok (Serves 270 272 rw false 0)) None
    ∷ kernel_step 0 (Touch 270 Write) (Ok (Serves 270 272 rw false 0)) None
    ∷ kernel_step 0 (Protect 1097728 4096 rw) (Ok (Returned 0)) (Some (plain 260 263 rw ∷ plain 268 269 rw ∷ plain 269 270 r ∷ plain 270 272 rw ∷ plain 34359705590 34359705593 r ∷ filed 34359705593 34359705599 r true 0 1 ∷ []))
    ∷ kernel_step 0 (Map 1101824 4096 r 16433 (negsuc 0) 0) (Ok (Returned 1101824)) (Some (plain 260 263 rw ∷ plain 268 269 rw ∷ filed 269 270 r true 0 2 ∷ plain 270 272 rw ∷ plain 34359705590 34359705593 r ∷ filed 34359705593 34359705599 r true 0 1 ∷ []))
    ∷ kernel_step 0 (Map 140737354108928 16384 r 49 (negsuc 0) 0) (Ok (Returned 140737354108928)) (Some (plain 260 263 rw ∷ plain 268 269 rw ∷ filed 269 270 r true 0 2 ∷ plain 270 272 rw ∷ plain 34359705590 34359705593 r ∷ filed 34359705593 34359705597 r true 0 3 ∷ filed 34359705597 34359705599 r true 16384 1 ∷ []))
    ∷ kernel_step 0 (Map 140737354096640 12288 rw 50 (negsuc 0) 0) (Ok (Returned 140737354096640)) (Some (plain 260 263 rw ∷ plain 268 269 rw ∷ filed 269 270 r true 0 2 ∷ plain 270 272 rw ∷ plain 34359705590 34359705593 rw ∷ filed 34359705593 34359705597 r true 0 3 ∷ filed 34359705597 34359705599 r true 16384 1 ∷ []))
    ∷ kernel_step 0 (Protect 1101824 4096 rw) (Ok (Returned 0)) (Some (plain 260 263 rw ∷ plain 268 269 rw ∷ filed 269 270 rw true 0 2 ∷ plain 270 272 rw ∷ plain 34359705590 34359705593 rw ∷ filed 34359705593 34359705597 r true 0 3 ∷ filed 34359705597 34359705599 r true 16384 1 ∷ []))
    ∷ kernel_step 0 (Map 1069056 16384 r 50 (negsuc 0) 0) (Ok (Returned 1069056)) (Some (plain 260 261 rw ∷ plain 261 265 r ∷ plain 268 269 rw ∷ filed 269 270 rw true 0 2 ∷ plain 270 272 rw ∷ plain 34359705590 34359705593 rw ∷ filed 34359705593 34359705597 r true 0 3 ∷ filed 34359705597 34359705599 r true 16384 1 ∷ []))
    ∷ kernel_step 0 (Touch 270 Write) (Ok (Serves 270 272 rw false 0)) None
    ∷ kernel_step 0 (Remap 1114112 16384 20480 3 1114112) (Err 14) (Some (plain 260 261 rw ∷ plain 261 265 r ∷ plain 268 269 rw ∷ filed 269 270 rw true 0 2 ∷ plain 270 272 rw ∷ plain 34359705590 34359705593 rw ∷ filed 34359705593 34359705597 r true 0 3 ∷ filed 34359705597 34359705599 r true 16384 1 ∷ []))
    ∷ kernel_step 0 (Map 1060864 8192 rw 16434 (negsuc 0) 0) (Ok (Returned 1060864)) (Some (plain 259 261 rw ∷ plain 261 265 r ∷ plain 268 269 rw ∷ filed 269 270 rw true 0 2 ∷ plain 270 272 rw ∷ plain 34359705590 34359705593 rw ∷ filed 34359705593 34359705597 r true 0 3 ∷ filed 34359705597 34359705599 r true 16384 1 ∷ []))
    ∷ kernel_step 0 (Protect 1110016 4096 r) (Ok (Returned 0)) (Some (plain 259 261 rw ∷ plain 261 265 r ∷ plain 268 269 rw ∷ filed 269 270 rw true 0 2 ∷ plain 270 271 rw ∷ plain 271 272 r ∷ plain 34359705590 34359705593 rw ∷ filed 34359705593 34359705597 r true 0 3 ∷ filed 34359705597 34359705599 r true 16384 1 ∷ []))
    ∷ kernel_step 0 (Map 1093632 16384 r 50 (negsuc 0) 0) (Ok (Returned 1093632)) (Some (plain 259 261 rw ∷ plain 261 265 r ∷ plain 267 271 r ∷ plain 271 272 r ∷ plain 34359705590 34359705593 rw ∷ filed 34359705593 34359705597 r true 0 3 ∷ filed 34359705597 34359705599 r true 16384 1 ∷ []))
    ∷ []

-- written_limit_7: the kernel
abbrev pub written_limit_7_on : Kernel
written_limit_7_on = record { rules = linux_6_16; machine = record { lowest_built = 16; memory = 245000; stack = 8388608; has_keys = true; huge_always = true; files_are_huge = false; vsyscall = Xonly }; config = config 4096 140737354133504 4 0 (file_row 3 true false 90000 ∷ file_row 4 true false 20000 ∷ []) }

-- written_limit_7: its answers
abbrev pub written_limit_7 : List Step
written_limit_7 =
    kernel_step 0 (Map 1056768 8192 rw 50 (negsuc 0) 0) (Ok (Returned 1056768)) (Some (plain 258 260 rw ∷ []))
    ∷ kernel_step 0 (Map 1056768 8192 rw 50 (negsuc 0) 0) (Ok (Returned 1056768)) (Some (plain 258 260 rw ∷ []))
    ∷ kernel_step 0 (Touch 260 Write) (Ok (Signal MapErr)) None
    ∷ kernel_step 0 (Touch 259 Read) (Ok (Serves 258 260 rw false 0)) None
    ∷ kernel_step 0 (Touch 258 Write) (Ok (Serves 258 260 rw false 0)) None
    ∷ kernel_step 0 (Touch 259 Write) (Ok (Serves 258 260 rw false 0)) None
    ∷ kernel_step 0 (Touch 258 Write) (Ok (Serves 258 260 rw false 0)) None
    ∷ kernel_step 0 (Protect 1056768 8192 r) (Ok (Returned 0)) (Some (plain 258 260 r ∷ []))
    ∷ kernel_step 0 (Unmap 1064960 16384) (Ok (Returned 0)) (Some (plain 258 260 r ∷ []))
    ∷ kernel_step 0 (Touch 258 Write) (Ok (Signal AccErr)) None
    ∷ kernel_step 0 (Map 1060864 8192 r 131122 (negsuc 0) 0) (Ok (Returned 1060864)) (Some (plain 258 259 r ∷ plain 259 261 r ∷ []))
    ∷ kernel_step 0 (Touch 258 Write) (Ok (Signal AccErr)) None
    ∷ kernel_step 0 (Map 1064960 4096 r 131122 (negsuc 0) 0) (Ok (Returned 1064960)) (Some (plain 258 259 r ∷ plain 259 261 r ∷ []))
    ∷ kernel_step 0 (Touch 259 Write) (Ok (Signal AccErr)) None
    ∷ kernel_step 0 (Map 1056768 4096 rw 50 (negsuc 0) 0) (Ok (Returned 1056768)) (Some (plain 258 259 rw ∷ plain 259 261 r ∷ []))
    ∷ kernel_step 0 (Map 1048576 8192 r 50 (negsuc 0) 0) (Ok (Returned 1048576)) (Some (plain 256 258 r ∷ plain 258 259 rw ∷ plain 259 261 r ∷ []))
    ∷ kernel_step 0 (Remap 1048576 4096 4096 3 1576960) (Err 12) (Some (plain 256 258 r ∷ plain 258 259 rw ∷ plain 259 261 r ∷ []))
    ∷ kernel_step 0 (Touch 256 Write) (Ok (Signal AccErr)) None
    ∷ kernel_step 0 (Remap 1048576 16384 16384 3 1638400) (Err 12) (Some (plain 256 258 r ∷ plain 258 259 rw ∷ plain 259 261 r ∷ []))
    ∷ kernel_step 0 (Map 1064960 12288 rw 50 (negsuc 0) 0) (Ok (Returned 1064960)) (Some (plain 256 258 r ∷ plain 258 259 rw ∷ plain 259 260 r ∷ plain 260 263 rw ∷ []))
    ∷ kernel_step 0 (Map 1064960 4096 r 50 (negsuc 0) 0) (Ok (Returned 1064960)) (Some (plain 256 258 r ∷ plain 258 259 rw ∷ plain 259 260 r ∷ plain 260 261 r ∷ plain 261 263 rw ∷ []))
    ∷ kernel_step 0 (Map 1060864 12288 rw 50 (negsuc 0) 0) (Err 12) (Some (plain 256 258 r ∷ plain 258 259 rw ∷ plain 259 260 r ∷ plain 260 261 r ∷ plain 261 263 rw ∷ []))
    ∷ kernel_step 0 (Fork 1) (Ok (Returned 0)) None
    ∷ kernel_step 1 (Touch 262 Write) (Ok (Serves 261 263 rw false 0)) None
    ∷ kernel_step 0 (Remap 1048576 8192 8192 3 1642496) (Err 12) (Some (plain 256 258 r ∷ plain 258 259 rw ∷ plain 259 260 r ∷ plain 260 261 r ∷ plain 261 263 rw ∷ []))
    ∷ kernel_step 0 (Protect 1056768 20480 rw) (Ok (Returned 0)) (Some (plain 256 258 r ∷ plain 258 259 rw ∷ plain 259 260 rw ∷ plain 260 263 rw ∷ []))
    ∷ kernel_step 1 (Touch 257 Read) (Ok (Serves 256 258 r false 0)) None
    ∷ kernel_step 0 (Protect 1064960 8192 r) (Err 12) (Some (plain 256 258 r ∷ plain 258 259 rw ∷ plain 259 260 rw ∷ plain 260 263 rw ∷ []))
    ∷ kernel_step 1 (Protect 1052672 4096 r) (Ok (Returned 0)) (Some (plain 256 258 r ∷ plain 258 259 rw ∷ plain 259 260 r ∷ plain 260 261 r ∷ plain 261 263 rw ∷ []))
    ∷ kernel_step 1 (Touch 257 Write) (Ok (Signal AccErr)) (Some (plain 256 258 r ∷ plain 258 259 rw ∷ plain 259 260 r ∷ plain 260 261 r ∷ plain 261 263 rw ∷ []))
    ∷ []

-- written_9: the kernel
abbrev pub written_9_on : Kernel
written_9_on = record { rules = linux_6_16; machine = record { lowest_built = 16; memory = 245000; stack = 8388608; has_keys = true; huge_always = true; files_are_huge = false; vsyscall = Xonly }; config = config 4096 140737354133504 65530 0 ([]) }

-- written_9: its answers
abbrev pub written_9 : List Step
written_9 =
    kernel_step 0 (Map 1060864 8192 rw 50 (negsuc 0) 0) (Ok (Returned 1060864)) (Some (plain 259 261 rw ∷ []))
    ∷ kernel_step 0 (Map 1056768 12288 rw 50 (negsuc 0) 0) (Ok (Returned 1056768)) (Some (plain 258 261 rw ∷ []))
    ∷ kernel_step 0 (Protect 1048576 4096 rw) (Err 12) (Some (plain 258 261 rw ∷ []))
    ∷ kernel_step 0 (Protect 1056768 8192 rw) (Ok (Returned 0)) (Some (plain 258 261 rw ∷ []))
    ∷ kernel_step 0 (Map 1048576 8192 rw 50 (negsuc 0) 0) (Ok (Returned 1048576)) (Some (plain 256 261 rw ∷ []))
    ∷ kernel_step 0 (Map 1056768 8192 rw 50 (negsuc 0) 0) (Ok (Returned 1056768)) (Some (plain 256 261 rw ∷ []))
    ∷ kernel_step 0 (Protect 1048576 20480 rw) (Ok (Returned 0)) (Some (plain 256 261 rw ∷ []))
    ∷ kernel_step 0 (Touch 258 Write) (Ok (Serves 256 261 rw false 0)) None
    ∷ kernel_step 0 (Protect 1060864 4096 rw) (Ok (Returned 0)) (Some (plain 256 261 rw ∷ []))
    ∷ kernel_step 0 (Map 1064960 12288 rw 50 (negsuc 0) 0) (Ok (Returned 1064960)) (Some (plain 256 263 rw ∷ []))
    ∷ kernel_step 0 (Protect 1056768 8192 rw) (Ok (Returned 0)) (Some (plain 256 263 rw ∷ []))
    ∷ kernel_step 0 (Remap 1056768 16384 16384 3 1609728) (Ok (Returned 1609728)) (Some (plain 256 258 rw ∷ plain 262 263 rw ∷ plain 393 397 rw ∷ []))
    ∷ kernel_step 0 (Remap 1609728 16384 16384 3 1056768) (Ok (Returned 1056768)) (Some (plain 256 263 rw ∷ []))
    ∷ kernel_step 0 (Unmap 1048576 28672) (Ok (Returned 0)) (Some ([]))
    ∷ kernel_step 0 (Touch 260 Read) (Ok (Signal MapErr)) None
    ∷ kernel_step 0 (Protect 1048576 16384 rw) (Err 12) (Some ([]))
    ∷ kernel_step 0 (Remap 1056768 8192 8192 3 1638400) (Err 14) (Some ([]))
    ∷ kernel_step 0 (Map 1064960 8192 rw 50 (negsuc 0) 0) (Ok (Returned 1064960)) (Some (plain 260 262 rw ∷ []))
    ∷ kernel_step 0 (Protect 1056768 4096 rw) (Err 12) (Some (plain 260 262 rw ∷ []))
    ∷ kernel_step 0 (Map 1060864 4096 rw 50 (negsuc 0) 0) (Ok (Returned 1060864)) (Some (plain 259 262 rw ∷ []))
    ∷ kernel_step 0 (Touch 261 Write) (Ok (Serves 259 262 rw false 0)) None
    ∷ kernel_step 0 (Map 1052672 8192 rw 50 (negsuc 0) 0) (Ok (Returned 1052672)) (Some (plain 257 262 rw ∷ []))
    ∷ kernel_step 0 (Remap 1048576 12288 20480 1 0) (Err 14) (Some (plain 257 262 rw ∷ []))
    ∷ kernel_step 0 (Map 1060864 4096 rw 131122 (negsuc 0) 0) (Ok (Returned 1060864)) (Some (plain 257 259 rw ∷ plain 259 260 rw ∷ plain 260 262 rw ∷ []))
    ∷ kernel_step 0 (Touch 257 Write) (Ok (Serves 257 259 rw false 0)) None
    ∷ kernel_step 0 (Touch 258 Write) (Ok (Serves 257 259 rw false 0)) None
    ∷ kernel_step 0 (Protect 1064960 8192 rw) (Ok (Returned 0)) (Some (plain 257 259 rw ∷ plain 259 260 rw ∷ plain 260 262 rw ∷ []))
    ∷ kernel_step 0 (Map 1064960 12288 rw 50 (negsuc 0) 0) (Ok (Returned 1064960)) (Some (plain 257 259 rw ∷ plain 259 260 rw ∷ plain 260 263 rw ∷ []))
    ∷ kernel_step 0 (Touch 259 Write) (Ok (Serves 259 260 rw false 0)) None
    ∷ kernel_step 0 (Touch 260 Write) (Ok (Serves 260 263 rw false 0)) (Some (plain 257 259 rw ∷ plain 259 260 rw ∷ plain 260 263 rw ∷ []))
    ∷ []

-- sealed_10: the kernel
abbrev pub sealed_10_on : Kernel
sealed_10_on = record { rules = linux_6_16; machine = record { lowest_built = 16; memory = 245000; stack = 8388608; has_keys = true; huge_always = true; files_are_huge = false; vsyscall = Xonly }; config = config 4096 140737354133504 65530 1064960 (file_row 3 false true 20000 ∷ file_row 4 true true 20000 ∷ []) }

-- sealed_10: its answers
abbrev pub sealed_10 : List Step
sealed_10 =
    kernel_step 0 (Map 1085440 12288 r 19 (pos 3) 12288) (Err 13) (Some ([]))
    ∷ kernel_step 0 (Map 1073152 8192 rw 131106 (negsuc 0) 0) (Ok (Returned 1073152)) (Some (plain 262 264 rw ∷ []))
    ∷ kernel_step 0 (Protect 1073152 8192 r) (Ok (Returned 0)) (Some (plain 262 264 r ∷ []))
    ∷ kernel_step 0 (Remap 1085440 12288 16384 3 1085440) (Err 14) (Some (plain 262 264 r ∷ []))
    ∷ kernel_step 0 (Seal 1073152 8192 0) (Ok (Returned 0)) (Some (plain 262 264 r ∷ []))
    ∷ kernel_step 0 (Map 1060864 12288 r 49 (negsuc 0) 0) (Ok (Returned 1060864)) (Some (filed 259 262 r true 0 3 ∷ plain 262 264 r ∷ []))
    ∷ kernel_step 0 (Seal 1073152 8192 0) (Ok (Returned 0)) (Some (filed 259 262 r true 0 3 ∷ plain 262 264 r ∷ []))
    ∷ kernel_step 0 (Protect 1077248 8192 rw) (Err 1) (Some (filed 259 262 r true 0 3 ∷ plain 262 264 r ∷ []))
    ∷ kernel_step 0 (Map 1089536 12288 rw 34 (negsuc 0) 0) (Ok (Returned 1089536)) (Some (filed 259 262 r true 0 3 ∷ plain 262 264 r ∷ plain 266 269 rw ∷ []))
    ∷ kernel_step 0 (Seal 1073152 8192 0) (Ok (Returned 0)) (Some (filed 259 262 r true 0 3 ∷ plain 262 264 r ∷ plain 266 269 rw ∷ []))
    ∷ kernel_step 0 (Break 1064960) (Ok (Returned 1064960)) (Some (filed 259 262 r true 0 3 ∷ plain 262 264 r ∷ plain 266 269 rw ∷ []))
    ∷ kernel_step 0 (Remap 1073152 8192 4096 1 0) (Err 1) (Some (filed 259 262 r true 0 3 ∷ plain 262 264 r ∷ plain 266 269 rw ∷ []))
    ∷ kernel_step 0 (Touch 262 Write) (Ok (Signal AccErr)) None
    ∷ kernel_step 0 (Seal 1060864 8192 0) (Ok (Returned 0)) (Some (filed 259 261 r true 0 3 ∷ filed 261 262 r true 8192 3 ∷ plain 262 264 r ∷ plain 266 269 rw ∷ []))
    ∷ kernel_step 0 (Map 0 16384 r 33 (negsuc 0) 0) (Ok (Returned 140737354117120)) (Some (filed 259 261 r true 0 3 ∷ filed 261 262 r true 8192 3 ∷ plain 262 264 r ∷ plain 266 269 rw ∷ filed 34359705595 34359705599 r true 0 4 ∷ []))
    ∷ kernel_step 0 (Protect 1073152 8192 rw) (Err 1) (Some (filed 259 261 r true 0 3 ∷ filed 261 262 r true 8192 3 ∷ plain 262 264 r ∷ plain 266 269 rw ∷ filed 34359705595 34359705599 r true 0 4 ∷ []))
    ∷ kernel_step 0 (Seal 1069056 4096 0) (Ok (Returned 0)) (Some (filed 259 262 r true 0 3 ∷ plain 262 264 r ∷ plain 266 269 rw ∷ filed 34359705595 34359705599 r true 0 4 ∷ []))
    ∷ kernel_step 0 (Map 1044480 16384 rw 32785 (pos 3) 8192) (Err 13) (Some (filed 259 262 r true 0 3 ∷ plain 262 264 r ∷ plain 266 269 rw ∷ filed 34359705595 34359705599 r true 0 4 ∷ []))
    ∷ kernel_step 0 (Seal 1073152 8192 0) (Ok (Returned 0)) (Some (filed 259 262 r true 0 3 ∷ plain 262 264 r ∷ plain 266 269 rw ∷ filed 34359705595 34359705599 r true 0 4 ∷ []))
    ∷ kernel_step 0 (Seal 1073152 8192 0) (Ok (Returned 0)) (Some (filed 259 262 r true 0 3 ∷ plain 262 264 r ∷ plain 266 269 rw ∷ filed 34359705595 34359705599 r true 0 4 ∷ []))
    ∷ kernel_step 0 (Map 1085440 16384 r 50 (negsuc 0) 0) (Ok (Returned 1085440)) (Some (filed 259 262 r true 0 3 ∷ plain 262 264 r ∷ plain 265 269 r ∷ filed 34359705595 34359705599 r true 0 4 ∷ []))
    ∷ kernel_step 0 (Seal 1073152 8192 0) (Ok (Returned 0)) (Some (filed 259 262 r true 0 3 ∷ plain 262 264 r ∷ plain 265 269 r ∷ filed 34359705595 34359705599 r true 0 4 ∷ []))
    ∷ kernel_step 0 (Seal 1060864 12288 0) (Ok (Returned 0)) (Some (filed 259 262 r true 0 3 ∷ plain 262 264 r ∷ plain 265 269 r ∷ filed 34359705595 34359705599 r true 0 4 ∷ []))
    ∷ kernel_step 0 (Map 1077248 12288 r 50 (negsuc 0) 0) (Err 1) (Some (filed 259 262 r true 0 3 ∷ plain 262 264 r ∷ plain 265 269 r ∷ filed 34359705595 34359705599 r true 0 4 ∷ []))
    ∷ kernel_step 0 (Protect 1060864 4096 rw) (Err 1) (Some (filed 259 262 r true 0 3 ∷ plain 262 264 r ∷ plain 265 269 r ∷ filed 34359705595 34359705599 r true 0 4 ∷ []))
    ∷ kernel_step 0 (Seal 1060864 12288 0) (Ok (Returned 0)) (Some (filed 259 262 r true 0 3 ∷ plain 262 264 r ∷ plain 265 269 r ∷ filed 34359705595 34359705599 r true 0 4 ∷ []))
    ∷ kernel_step 0 (Seal 1089536 12288 0) (Ok (Returned 0)) (Some (filed 259 262 r true 0 3 ∷ plain 262 264 r ∷ plain 265 266 r ∷ plain 266 269 r ∷ filed 34359705595 34359705599 r true 0 4 ∷ []))
    ∷ kernel_step 0 (Protect 1073152 8192 rw) (Err 1) (Some (filed 259 262 r true 0 3 ∷ plain 262 264 r ∷ plain 265 266 r ∷ plain 266 269 r ∷ filed 34359705595 34359705599 r true 0 4 ∷ []))
    ∷ kernel_step 0 (Break 1052664) (Ok (Returned 1064960)) (Some (filed 259 262 r true 0 3 ∷ plain 262 264 r ∷ plain 265 266 r ∷ plain 266 269 r ∷ filed 34359705595 34359705599 r true 0 4 ∷ []))
    ∷ kernel_step 0 (Seal 1060864 12288 0) (Ok (Returned 0)) (Some (filed 259 262 r true 0 3 ∷ plain 262 264 r ∷ plain 265 266 r ∷ plain 266 269 r ∷ filed 34359705595 34359705599 r true 0 4 ∷ []))
    ∷ []

-- hard_11: the kernel
abbrev pub hard_11_on : Kernel
hard_11_on = record { rules = linux_6_16; machine = record { lowest_built = 16; memory = 245000; stack = 8388608; has_keys = true; huge_always = true; files_are_huge = false; vsyscall = Xonly }; config = config 4096 140737354133504 65530 0 (file_row 3 true false 0 ∷ []) }

-- hard_11: its answers
abbrev pub hard_11 : List Step
hard_11 =
    kernel_step 0 (Map 1105920 8192 rw 18 (pos 3) 12288) (Ok (Returned 1105920)) (Some (filed 270 272 rw false 12288 1 ∷ []))
    ∷ kernel_step 0 (Map 1081344 8192 rw 18 (pos 3) 12288) (Ok (Returned 1081344)) (Some (filed 264 266 rw false 12288 1 ∷ filed 270 272 rw false 12288 1 ∷ []))
    ∷ kernel_step 0 (Touch 265 Write) (Ok (Signal BusErr)) None
    ∷ kernel_step 0 (Remap 1081344 8192 4096 3 1060864) (Ok (Returned 1060864)) (Some (filed 259 260 rw false 12288 1 ∷ filed 270 272 rw false 12288 1 ∷ []))
    ∷ kernel_step 0 (Touch 261 Write) (Ok (Signal MapErr)) None
    ∷ kernel_step 0 (Map 1064960 4096 rw 18 (pos 3) 16384) (Ok (Returned 1064960)) (Some (filed 259 261 rw false 12288 1 ∷ filed 270 272 rw false 12288 1 ∷ []))
    ∷ kernel_step 0 (Protect 1110016 4096 r) (Ok (Returned 0)) (Some (filed 259 261 rw false 12288 1 ∷ filed 270 271 rw false 12288 1 ∷ filed 271 272 r false 16384 1 ∷ []))
    ∷ kernel_step 0 (Touch 271 Write) (Ok (Signal AccErr)) None
    ∷ kernel_step 0 (Protect 1110016 4096 rw) (Ok (Returned 0)) (Some (filed 259 261 rw false 12288 1 ∷ filed 270 272 rw false 12288 1 ∷ []))
    ∷ kernel_step 0 (Remap 1105920 4096 4096 7 1069056) (Ok (Returned 1069056)) (Some (filed 259 261 rw false 12288 1 ∷ filed 261 262 rw false 12288 1 ∷ filed 270 272 rw false 12288 1 ∷ []))
    ∷ kernel_step 0 (Protect 1069056 4096 rw) (Ok (Returned 0)) (Some (filed 259 261 rw false 12288 1 ∷ filed 261 262 rw false 12288 1 ∷ filed 270 272 rw false 12288 1 ∷ []))
    ∷ kernel_step 0 (Map 1085440 12288 r 50 (negsuc 0) 0) (Ok (Returned 1085440)) (Some (filed 259 261 rw false 12288 1 ∷ filed 261 262 rw false 12288 1 ∷ plain 265 268 r ∷ filed 270 272 rw false 12288 1 ∷ []))
    ∷ kernel_step 0 (Protect 1069056 4096 rw) (Ok (Returned 0)) (Some (filed 259 261 rw false 12288 1 ∷ filed 261 262 rw false 12288 1 ∷ plain 265 268 r ∷ filed 270 272 rw false 12288 1 ∷ []))
    ∷ kernel_step 0 (Map 1073152 12288 rw 18 (pos 3) 16384) (Ok (Returned 1073152)) (Some (filed 259 261 rw false 12288 1 ∷ filed 261 265 rw false 12288 1 ∷ plain 265 268 r ∷ filed 270 272 rw false 12288 1 ∷ []))
    ∷ kernel_step 0 (Protect 1052672 8192 rw) (Err 12) (Some (filed 259 261 rw false 12288 1 ∷ filed 261 265 rw false 12288 1 ∷ plain 265 268 r ∷ filed 270 272 rw false 12288 1 ∷ []))
    ∷ kernel_step 0 (Remap 1060864 0 8192 1 0) (Err 22) (Some (filed 259 261 rw false 12288 1 ∷ filed 261 265 rw false 12288 1 ∷ plain 265 268 r ∷ filed 270 272 rw false 12288 1 ∷ []))
    ∷ kernel_step 0 (Map 0 16384 r 34 (negsuc 0) 0) (Ok (Returned 140737354117120)) (Some (filed 259 261 rw false 12288 1 ∷ filed 261 265 rw false 12288 1 ∷ plain 265 268 r ∷ filed 270 272 rw false 12288 1 ∷ plain 34359705595 34359705599 r ∷ []))
    ∷ kernel_step 0 (Protect 1060864 12288 r) (Ok (Returned 0)) (Some (filed 259 261 r false 12288 1 ∷ filed 261 262 r false 12288 1 ∷ filed 262 265 rw false 16384 1 ∷ plain 265 268 r ∷ filed 270 272 rw false 12288 1 ∷ plain 34359705595 34359705599 r ∷ []))
    ∷ kernel_step 0 (Touch 264 Write) (Ok (Signal BusErr)) None
    ∷ kernel_step 0 (Map 0 12288 rw 2 (pos 3) 0) (Ok (Returned 140737354104832)) (Some (filed 259 261 r false 12288 1 ∷ filed 261 262 r false 12288 1 ∷ filed 262 265 rw false 16384 1 ∷ plain 265 268 r ∷ filed 270 272 rw false 12288 1 ∷ filed 34359705592 34359705595 rw false 0 1 ∷ plain 34359705595 34359705599 r ∷ []))
    ∷ kernel_step 0 (Map 1110016 12288 r 1048578 (pos 3) 0) (Err 17) (Some (filed 259 261 r false 12288 1 ∷ filed 261 262 r false 12288 1 ∷ filed 262 265 rw false 16384 1 ∷ plain 265 268 r ∷ filed 270 272 rw false 12288 1 ∷ filed 34359705592 34359705595 rw false 0 1 ∷ plain 34359705595 34359705599 r ∷ []))
    ∷ kernel_step 0 (Map 1048576 12288 r 18 (pos 3) 0) (Ok (Returned 1048576)) (Some (filed 256 259 r false 0 1 ∷ filed 259 261 r false 12288 1 ∷ filed 261 262 r false 12288 1 ∷ filed 262 265 rw false 16384 1 ∷ plain 265 268 r ∷ filed 270 272 rw false 12288 1 ∷ filed 34359705592 34359705595 rw false 0 1 ∷ plain 34359705595 34359705599 r ∷ []))
    ∷ kernel_step 0 (Protect 1048576 12288 rw) (Ok (Returned 0)) (Some (filed 256 259 rw false 0 1 ∷ filed 259 261 r false 12288 1 ∷ filed 261 262 r false 12288 1 ∷ filed 262 265 rw false 16384 1 ∷ plain 265 268 r ∷ filed 270 272 rw false 12288 1 ∷ filed 34359705592 34359705595 rw false 0 1 ∷ plain 34359705595 34359705599 r ∷ []))
    ∷ kernel_step 0 (Touch 262 Write) (Ok (Signal BusErr)) None
    ∷ kernel_step 0 (Protect 1060864 8192 rw) (Ok (Returned 0)) (Some (filed 256 261 rw false 0 1 ∷ filed 261 262 r false 12288 1 ∷ filed 262 265 rw false 16384 1 ∷ plain 265 268 r ∷ filed 270 272 rw false 12288 1 ∷ filed 34359705592 34359705595 rw false 0 1 ∷ plain 34359705595 34359705599 r ∷ []))
    ∷ kernel_step 0 (Unmap 1048576 12288) (Ok (Returned 0)) (Some (filed 259 261 rw false 12288 1 ∷ filed 261 262 r false 12288 1 ∷ filed 262 265 rw false 16384 1 ∷ plain 265 268 r ∷ filed 270 272 rw false 12288 1 ∷ filed 34359705592 34359705595 rw false 0 1 ∷ plain 34359705595 34359705599 r ∷ []))
    ∷ kernel_step 0 (Map 1118208 8192 rw 50 (negsuc 0) 0) (Ok (Returned 1118208)) (Some (filed 259 261 rw false 12288 1 ∷ filed 261 262 r false 12288 1 ∷ filed 262 265 rw false 16384 1 ∷ plain 265 268 r ∷ filed 270 272 rw false 12288 1 ∷ plain 273 275 rw ∷ filed 34359705592 34359705595 rw false 0 1 ∷ plain 34359705595 34359705599 r ∷ []))
    ∷ kernel_step 0 (Touch 261 Write) (Ok (Signal AccErr)) None
    ∷ kernel_step 0 (Map 140737354117120 12288 rw 18 (pos 3) 12288) (Ok (Returned 140737354117120)) (Some (filed 259 261 rw false 12288 1 ∷ filed 261 262 r false 12288 1 ∷ filed 262 265 rw false 16384 1 ∷ plain 265 268 r ∷ filed 270 272 rw false 12288 1 ∷ plain 273 275 rw ∷ filed 34359705592 34359705598 rw false 0 1 ∷ plain 34359705598 34359705599 r ∷ []))
    ∷ kernel_step 0 (Map 1081344 16384 rw 32818 (negsuc 0) 0) (Ok (Returned 1081344)) (Some (filed 259 261 rw false 12288 1 ∷ filed 261 262 r false 12288 1 ∷ filed 262 264 rw false 16384 1 ∷ plain 264 268 rw ∷ filed 270 272 rw false 12288 1 ∷ plain 273 275 rw ∷ filed 34359705592 34359705598 rw false 0 1 ∷ plain 34359705598 34359705599 r ∷ []))
    ∷ []

-- written_12: the kernel
abbrev pub written_12_on : Kernel
written_12_on = record { rules = linux_6_16; machine = record { lowest_built = 16; memory = 245000; stack = 8388608; has_keys = true; huge_always = true; files_are_huge = false; vsyscall = Xonly }; config = config 4096 140737354133504 65530 1064960 (file_row 3 true true 20000 ∷ []) }

-- written_12: its answers
abbrev pub written_12 : List Step
written_12 =
    kernel_step 0 (Map 1077248 8192 rwx 50 (negsuc 0) 0) (Ok (Returned 1077248)) (Some (plain 263 265 rwx ∷ []))
    ∷ kernel_step 0 (Map 1064960 8192 rwx 50 (negsuc 0) 0) (Ok (Returned 1064960)) (Some (plain 260 262 rwx ∷ plain 263 265 rwx ∷ []))
    ∷ kernel_step 0 (Touch 258 Write) (Ok (Signal MapErr)) None
    ∷ kernel_step 0 (Map 1064960 16384 rw 50 (negsuc 0) 0) (Ok (Returned 1064960)) (Some (plain 260 264 rw ∷ plain 264 265 rwx ∷ []))
    ∷ kernel_step 0 (Break 1056768) (Ok (Returned 1064960)) (Some (plain 260 264 rw ∷ plain 264 265 rwx ∷ []))
    ∷ kernel_step 0 (Remap 1052672 4096 8192 1 0) (Err 14) (Some (plain 260 264 rw ∷ plain 264 265 rwx ∷ []))
    ∷ kernel_step 0 (Protect 1064960 12288 rwx) (Ok (Returned 0)) (Some (plain 260 263 rwx ∷ plain 263 264 rw ∷ plain 264 265 rwx ∷ []))
    ∷ kernel_step 0 (Touch 262 Read) (Ok (Serves 260 263 rwx false 0)) None
    ∷ kernel_step 0 (Remap 1056768 12288 12288 3 1576960) (Err 14) (Some (plain 260 263 rwx ∷ plain 263 264 rw ∷ plain 264 265 rwx ∷ []))
    ∷ kernel_step 0 (Break 1073152) (Ok (Returned 1064960)) (Some (plain 260 263 rwx ∷ plain 263 264 rw ∷ plain 264 265 rwx ∷ []))
    ∷ kernel_step 0 (Touch 263 Write) (Ok (Serves 263 264 rw false 0)) None
    ∷ kernel_step 0 (Touch 264 Write) (Ok (Serves 264 265 rwx false 0)) None
    ∷ kernel_step 0 (Touch 264 Write) (Ok (Serves 264 265 rwx false 0)) None
    ∷ kernel_step 0 (Fork 1) (Ok (Returned 0)) None
    ∷ kernel_step 0 (Protect 1052672 12288 rw) (Err 12) (Some (plain 260 263 rwx ∷ plain 263 264 rw ∷ plain 264 265 rwx ∷ []))
    ∷ kernel_step 1 (Map 1064960 8192 rw 50 (negsuc 0) 0) (Ok (Returned 1064960)) (Some (plain 260 262 rw ∷ plain 262 263 rwx ∷ plain 263 264 rw ∷ plain 264 265 rwx ∷ []))
    ∷ kernel_step 1 (Protect 1048576 16384 rw) (Err 12) (Some (plain 260 262 rw ∷ plain 262 263 rwx ∷ plain 263 264 rw ∷ plain 264 265 rwx ∷ []))
    ∷ kernel_step 0 (Protect 1064960 4096 r) (Ok (Returned 0)) (Some (plain 260 261 r ∷ plain 261 263 rwx ∷ plain 263 264 rw ∷ plain 264 265 rwx ∷ []))
    ∷ kernel_step 1 (Touch 263 Write) (Ok (Serves 263 264 rw false 0)) None
    ∷ kernel_step 1 (Map 1056768 12288 rwx 50 (negsuc 0) 0) (Ok (Returned 1056768)) (Some (heap 258 261 rwx ∷ plain 261 262 rw ∷ plain 262 263 rwx ∷ plain 263 264 rw ∷ plain 264 265 rwx ∷ []))
    ∷ kernel_step 1 (Touch 264 Write) (Ok (Serves 264 265 rwx false 0)) None
    ∷ kernel_step 0 (Touch 260 Read) (Ok (Serves 260 261 r false 0)) None
    ∷ kernel_step 0 (Protect 1081344 20480 rw) (Err 12) (Some (plain 260 261 r ∷ plain 261 263 rwx ∷ plain 263 265 rw ∷ []))
    ∷ kernel_step 0 (Map 1060864 8192 r 50 (negsuc 0) 0) (Ok (Returned 1060864)) (Some (heap 259 261 r ∷ plain 261 263 rwx ∷ plain 263 265 rw ∷ []))
    ∷ kernel_step 1 (Map 1048576 8192 rw 50 (negsuc 0) 0) (Ok (Returned 1048576)) (Some (plain 256 258 rw ∷ heap 258 261 rwx ∷ plain 261 262 rw ∷ plain 262 263 rwx ∷ plain 263 264 rw ∷ plain 264 265 rwx ∷ []))
    ∷ kernel_step 0 (Touch 260 Write) (Ok (Signal AccErr)) None
    ∷ kernel_step 1 (Touch 262 Write) (Ok (Serves 262 263 rwx false 0)) None
    ∷ kernel_step 1 (Remap 1576960 12288 12288 3 1056768) (Err 14) (Some (plain 256 258 rw ∷ heap 258 261 rwx ∷ plain 261 262 rw ∷ plain 262 263 rwx ∷ plain 263 264 rw ∷ plain 264 265 rwx ∷ []))
    ∷ kernel_step 0 (Break 1069056) (Ok (Returned 1064960)) (Some (heap 259 261 r ∷ plain 261 263 rwx ∷ plain 263 265 rw ∷ []))
    ∷ kernel_step 0 (Protect 1064960 16384 r) (Ok (Returned 0)) (Some (heap 259 263 r ∷ plain 263 264 r ∷ plain 264 265 rw ∷ []))
    ∷ []

-- written_limit_15: the kernel
abbrev pub written_limit_15_on : Kernel
written_limit_15_on = record { rules = linux_6_16; machine = record { lowest_built = 16; memory = 245000; stack = 8388608; has_keys = true; huge_always = true; files_are_huge = false; vsyscall = Xonly }; config = config 4096 140737354133504 12 0 (file_row 3 true false 0 ∷ []) }

-- written_limit_15: its answers
abbrev pub written_limit_15 : List Step
written_limit_15 =
    kernel_step 0 (Map 1056768 4096 r 50 (negsuc 0) 0) (Ok (Returned 1056768)) (Some (plain 258 259 r ∷ []))
    ∷ kernel_step 0 (Map 1048576 8192 rw 18 (pos 3) 0) (Ok (Returned 1048576)) (Some (filed 256 258 rw false 0 1 ∷ plain 258 259 r ∷ []))
    ∷ kernel_step 0 (Fork 1) (Ok (Returned 0)) None
    ∷ kernel_step 0 (Protect 1073152 8192 r) (Err 12) (Some (filed 256 258 rw false 0 1 ∷ plain 258 259 r ∷ []))
    ∷ kernel_step 0 (Touch 256 Write) (Ok (Signal BusErr)) None
    ∷ kernel_step 0 (Map 1060864 12288 rw 50 (negsuc 0) 0) (Ok (Returned 1060864)) (Some (filed 256 258 rw false 0 1 ∷ plain 258 259 r ∷ plain 259 262 rw ∷ []))
    ∷ kernel_step 0 (Remap 1064960 12288 12288 3 1572864) (Err 14) (Some (filed 256 258 rw false 0 1 ∷ plain 258 259 r ∷ plain 259 262 rw ∷ []))
    ∷ kernel_step 0 (Protect 1060864 4096 rw) (Ok (Returned 0)) (Some (filed 256 258 rw false 0 1 ∷ plain 258 259 r ∷ plain 259 262 rw ∷ []))
    ∷ kernel_step 0 (Map 1052672 12288 r 18 (pos 3) 4096) (Ok (Returned 1052672)) (Some (filed 256 257 rw false 0 1 ∷ filed 257 260 r false 4096 1 ∷ plain 260 262 rw ∷ []))
    ∷ kernel_step 1 (Touch 258 Write) (Ok (Signal AccErr)) None
    ∷ kernel_step 1 (Touch 256 Write) (Ok (Signal BusErr)) None
    ∷ kernel_step 0 (Touch 256 Write) (Ok (Signal BusErr)) None
    ∷ kernel_step 1 (Touch 258 Write) (Ok (Signal AccErr)) None
    ∷ kernel_step 1 (Map 1077248 4096 rw 50 (negsuc 0) 0) (Ok (Returned 1077248)) (Some (filed 256 258 rw false 0 1 ∷ plain 258 259 r ∷ plain 263 264 rw ∷ []))
    ∷ kernel_step 1 (Remap 1572864 12288 12288 3 1064960) (Err 14) (Some (filed 256 258 rw false 0 1 ∷ plain 258 259 r ∷ plain 263 264 rw ∷ []))
    ∷ kernel_step 0 (Protect 1069056 12288 r) (Err 12) (Some (filed 256 257 rw false 0 1 ∷ filed 257 260 r false 4096 1 ∷ plain 260 261 rw ∷ plain 261 262 r ∷ []))
    ∷ kernel_step 0 (Remap 1069056 4096 4096 3 1609728) (Ok (Returned 1609728)) (Some (filed 256 257 rw false 0 1 ∷ filed 257 260 r false 4096 1 ∷ plain 260 261 rw ∷ plain 393 394 r ∷ []))
    ∷ kernel_step 0 (Remap 1609728 4096 4096 3 1069056) (Ok (Returned 1069056)) (Some (filed 256 257 rw false 0 1 ∷ filed 257 260 r false 4096 1 ∷ plain 260 261 rw ∷ plain 261 262 r ∷ []))
    ∷ kernel_step 0 (Touch 259 Read) (Ok (Signal BusErr)) None
    ∷ kernel_step 1 (Remap 1056768 24576 24576 3 1609728) (Err 14) (Some (filed 256 258 rw false 0 1 ∷ plain 258 259 r ∷ plain 263 264 rw ∷ []))
    ∷ kernel_step 1 (Map 1077248 16384 r 18 (pos 3) 28672) (Ok (Returned 1077248)) (Some (filed 256 258 rw false 0 1 ∷ plain 258 259 r ∷ filed 263 267 r false 28672 1 ∷ []))
    ∷ kernel_step 1 (Touch 265 Write) (Ok (Signal AccErr)) None
    ∷ kernel_step 0 (Fork 2) (Ok (Returned 0)) None
    ∷ kernel_step 2 (Remap 1609728 24576 24576 3 1056768) (Err 14) (Some (filed 256 257 rw false 0 1 ∷ filed 257 260 r false 4096 1 ∷ plain 260 261 rw ∷ plain 261 262 r ∷ []))
    ∷ kernel_step 1 (Map 1060864 16384 r 18 (pos 3) 12288) (Ok (Returned 1060864)) (Some (filed 256 258 rw false 0 1 ∷ plain 258 259 r ∷ filed 259 267 r false 12288 1 ∷ []))
    ∷ kernel_step 0 (Map 1069056 8192 rw 18 (pos 3) 20480) (Ok (Returned 1069056)) (Some (filed 256 257 rw false 0 1 ∷ filed 257 260 r false 4096 1 ∷ plain 260 261 rw ∷ filed 261 263 rw false 20480 1 ∷ []))
    ∷ kernel_step 2 (Map 1077248 12288 rw 18 (pos 3) 28672) (Ok (Returned 1077248)) (Some (filed 256 257 rw false 0 1 ∷ filed 257 260 r false 4096 1 ∷ plain 260 261 rw ∷ plain 261 262 r ∷ filed 263 266 rw false 28672 1 ∷ []))
    ∷ kernel_step 1 (Protect 1056768 4096 r) (Ok (Returned 0)) (Some (filed 256 258 rw false 0 1 ∷ plain 258 259 r ∷ filed 259 267 r false 12288 1 ∷ []))
    ∷ kernel_step 1 (Touch 262 Write) (Ok (Signal AccErr)) (Some (filed 256 258 rw false 0 1 ∷ plain 258 259 r ∷ filed 259 267 r false 12288 1 ∷ []))
    ∷ kernel_step 2 (Touch 257 Write) (Ok (Signal AccErr)) (Some (filed 256 257 rw false 0 1 ∷ filed 257 260 r false 4096 1 ∷ plain 260 261 rw ∷ plain 261 262 r ∷ filed 263 266 rw false 28672 1 ∷ []))
    ∷ []

-- written_limit_23: the kernel
abbrev pub written_limit_23_on : Kernel
written_limit_23_on = record { rules = linux_6_16; machine = record { lowest_built = 16; memory = 245000; stack = 8388608; has_keys = true; huge_always = true; files_are_huge = false; vsyscall = Xonly }; config = config 4096 140737354133504 10 0 (file_row 3 false true 5000 ∷ []) }

-- written_limit_23: its answers
abbrev pub written_limit_23 : List Step
written_limit_23 =
    kernel_step 0 (Map 1073152 16384 r 32818 (negsuc 0) 0) (Ok (Returned 1073152)) (Some (plain 262 266 r ∷ []))
    ∷ kernel_step 0 (Map 1089536 4096 r 50 (negsuc 0) 0) (Ok (Returned 1089536)) (Some (plain 262 267 r ∷ []))
    ∷ kernel_step 0 (Touch 266 Exec) (Ok (Signal AccErr)) None
    ∷ kernel_step 0 (Map 1069056 16384 rwx 50 (negsuc 0) 0) (Ok (Returned 1069056)) (Some (plain 261 265 rwx ∷ plain 265 267 r ∷ []))
    ∷ kernel_step 0 (Map 1069056 34359738368 rw 50 (negsuc 0) 0) (Err 12) (Some (plain 261 265 rwx ∷ plain 265 267 r ∷ []))
    ∷ kernel_step 0 (Map 1089536 16384 rwx 50 (negsuc 0) 0) (Ok (Returned 1089536)) (Some (plain 261 265 rwx ∷ plain 265 266 r ∷ plain 266 270 rwx ∷ []))
    ∷ kernel_step 0 (Remap 1101824 16384 16384 3 1077248) (Err 14) (Some (plain 261 263 rwx ∷ plain 267 270 rwx ∷ []))
    ∷ kernel_step 0 (Touch 262 Write) (Ok (Serves 261 263 rwx false 0)) None
    ∷ kernel_step 0 (Touch 269 Write) (Ok (Serves 267 270 rwx false 0)) None
    ∷ kernel_step 0 (Touch 262 Write) (Ok (Serves 261 263 rwx false 0)) None
    ∷ kernel_step 0 (Protect 1093632 4096 rw) (Ok (Returned 0)) (Some (plain 261 263 rwx ∷ plain 267 268 rw ∷ plain 268 270 rwx ∷ []))
    ∷ kernel_step 0 (Protect 1069056 4096 r) (Ok (Returned 0)) (Some (plain 261 262 r ∷ plain 262 263 rwx ∷ plain 267 268 rw ∷ plain 268 270 rwx ∷ []))
    ∷ kernel_step 0 (Map 1077248 16384 rw 50 (negsuc 0) 0) (Ok (Returned 1077248)) (Some (plain 261 262 r ∷ plain 262 263 rwx ∷ plain 263 268 rw ∷ plain 268 270 rwx ∷ []))
    ∷ kernel_step 0 (Touch 264 Write) (Ok (Serves 263 268 rw false 0)) None
    ∷ kernel_step 0 (Touch 261 Read) (Ok (Serves 261 262 r false 0)) None
    ∷ kernel_step 0 (Protect 1069056 4096 rw) (Ok (Returned 0)) (Some (plain 261 262 rw ∷ plain 262 263 rwx ∷ plain 263 268 rw ∷ plain 268 270 rwx ∷ []))
    ∷ kernel_step 0 (Remap 1069056 4096 4096 3 1605632) (Ok (Returned 1605632)) (Some (plain 262 263 rwx ∷ plain 263 268 rw ∷ plain 268 270 rwx ∷ plain 392 393 rw ∷ []))
    ∷ kernel_step 0 (Touch 262 Write) (Ok (Serves 262 263 rwx false 0)) None
    ∷ kernel_step 0 (Touch 266 Write) (Ok (Serves 263 268 rw false 0)) None
    ∷ kernel_step 0 (Unmap 1073152 16384) (Ok (Returned 0)) (Some (plain 266 268 rw ∷ plain 268 270 rwx ∷ plain 392 393 rw ∷ []))
    ∷ kernel_step 0 (Map 1052672 4096 r 50 (negsuc 0) 0) (Ok (Returned 1052672)) (Some (plain 257 258 r ∷ plain 266 268 rw ∷ plain 268 270 rwx ∷ plain 392 393 rw ∷ []))
    ∷ kernel_step 0 (Remap 1605632 4096 4096 3 1069056) (Ok (Returned 1069056)) (Some (plain 257 258 r ∷ plain 261 262 rw ∷ plain 266 268 rw ∷ plain 268 270 rwx ∷ []))
    ∷ kernel_step 0 (Protect 1085440 4096 rwx) (Err 12) (Some (plain 257 258 r ∷ plain 261 262 rw ∷ plain 266 268 rw ∷ plain 268 270 rwx ∷ []))
    ∷ kernel_step 0 (Remap 1073152 12288 12288 7 1069056) (Err 14) (Some (plain 257 258 r ∷ plain 261 262 rw ∷ plain 266 268 rw ∷ plain 268 270 rwx ∷ []))
    ∷ kernel_step 0 (Touch 269 Read) (Ok (Serves 268 270 rwx false 0)) None
    ∷ kernel_step 0 (Touch 267 Write) (Ok (Serves 266 268 rw false 0)) None
    ∷ kernel_step 0 (Protect 1089536 16384 rw) (Ok (Returned 0)) (Some (plain 257 258 r ∷ plain 261 262 rw ∷ plain 266 270 rw ∷ []))
    ∷ kernel_step 0 (Fork 1) (Ok (Returned 0)) None
    ∷ kernel_step 0 (Touch 266 Write) (Ok (Serves 266 270 rw false 0)) (Some (plain 257 258 r ∷ plain 261 262 rw ∷ plain 266 270 rw ∷ []))
    ∷ kernel_step 1 (Remap 1069056 12288 12288 3 1073152) (Err 22) (Some (plain 257 258 r ∷ plain 261 262 rw ∷ plain 266 270 rw ∷ []))
    ∷ []

-- written_28: the kernel
abbrev pub written_28_on : Kernel
written_28_on = record { rules = linux_6_16; machine = record { lowest_built = 16; memory = 245000; stack = 8388608; has_keys = true; huge_always = true; files_are_huge = false; vsyscall = Xonly }; config = config 4096 140737354133504 65530 0 ([]) }

-- written_28: its answers
abbrev pub written_28 : List Step
written_28 =
    kernel_step 0 (Map 1056768 12288 rw 50 (negsuc 0) 0) (Ok (Returned 1056768)) (Some (plain 258 261 rw ∷ []))
    ∷ kernel_step 0 (Map 1048576 8192 rw 50 (negsuc 0) 0) (Ok (Returned 1048576)) (Some (plain 256 261 rw ∷ []))
    ∷ kernel_step 0 (Touch 260 Write) (Ok (Serves 256 261 rw false 0)) None
    ∷ kernel_step 0 (Protect 1048576 20480 rw) (Ok (Returned 0)) (Some (plain 256 261 rw ∷ []))
    ∷ kernel_step 0 (Map 1060864 8192 rw 50 (negsuc 0) 0) (Ok (Returned 1060864)) (Some (plain 256 261 rw ∷ []))
    ∷ kernel_step 0 (Remap 1064960 12288 12288 3 1572864) (Err 14) (Some (plain 256 261 rw ∷ []))
    ∷ kernel_step 0 (Touch 256 Read) (Ok (Serves 256 261 rw false 0)) None
    ∷ kernel_step 0 (Remap 1572864 12288 12288 3 1064960) (Err 14) (Some (plain 256 261 rw ∷ []))
    ∷ kernel_step 0 (Touch 257 Exec) (Ok (Signal AccErr)) None
    ∷ kernel_step 0 (Remap 1060864 12288 12288 3 1576960) (Err 14) (Some (plain 256 261 rw ∷ []))
    ∷ kernel_step 0 (Remap 1048576 8192 8192 3 1572864) (Ok (Returned 1572864)) (Some (plain 258 261 rw ∷ plain 384 386 rw ∷ []))
    ∷ kernel_step 0 (Touch 258 Write) (Ok (Serves 258 261 rw false 0)) None
    ∷ kernel_step 0 (Protect 1056768 8192 rw) (Ok (Returned 0)) (Some (plain 258 261 rw ∷ plain 384 386 rw ∷ []))
    ∷ kernel_step 0 (Map 1060864 4096 rw 50 (negsuc 0) 0) (Ok (Returned 1060864)) (Some (plain 258 261 rw ∷ plain 384 386 rw ∷ []))
    ∷ kernel_step 0 (Map 1064960 4096 rw 50 (negsuc 0) 0) (Ok (Returned 1064960)) (Some (plain 258 261 rw ∷ plain 384 386 rw ∷ []))
    ∷ kernel_step 0 (Touch 259 Exec) (Ok (Signal AccErr)) None
    ∷ kernel_step 0 (Remap 1572864 8192 8192 3 1048576) (Ok (Returned 1048576)) (Some (plain 256 261 rw ∷ []))
    ∷ kernel_step 0 (Touch 386 Write) (Ok (Signal MapErr)) None
    ∷ kernel_step 0 (Touch 260 Write) (Ok (Serves 256 261 rw false 0)) None
    ∷ kernel_step 0 (Fork 1) (Ok (Returned 0)) None
    ∷ kernel_step 1 (Touch 386 Write) (Ok (Signal MapErr)) None
    ∷ kernel_step 0 (Protect 1060864 4096 rw) (Ok (Returned 0)) (Some (plain 256 261 rw ∷ []))
    ∷ kernel_step 0 (Map 1052672 16384 rw 50 (negsuc 0) 0) (Ok (Returned 1052672)) (Some (plain 256 261 rw ∷ []))
    ∷ kernel_step 1 (Touch 258 Write) (Ok (Serves 256 261 rw false 0)) None
    ∷ kernel_step 0 (Remap 1048576 20480 20480 3 1576960) (Ok (Returned 1576960)) (Some (plain 385 390 rw ∷ []))
    ∷ kernel_step 0 (Remap 1060864 16384 20480 0 0) (Err 14) (Some (plain 385 390 rw ∷ []))
    ∷ kernel_step 1 (Touch 386 Write) (Ok (Signal MapErr)) None
    ∷ kernel_step 0 (Remap 1585152 4096 4096 3 1069056) (Ok (Returned 1069056)) (Some (plain 261 262 rw ∷ plain 385 387 rw ∷ plain 388 390 rw ∷ []))
    ∷ kernel_step 0 (Map 1052672 12288 rw 50 (negsuc 0) 0) (Ok (Returned 1052672)) (Some (plain 257 260 rw ∷ plain 261 262 rw ∷ plain 385 387 rw ∷ plain 388 390 rw ∷ []))
    ∷ kernel_step 1 (Protect 1056768 8192 rw) (Ok (Returned 0)) (Some (plain 256 261 rw ∷ []))
    ∷ []

-- written_30: the kernel
abbrev pub written_30_on : Kernel
written_30_on = record { rules = linux_6_16; machine = record { lowest_built = 16; memory = 245000; stack = 8388608; has_keys = true; huge_always = true; files_are_huge = false; vsyscall = Xonly }; config = config 4096 140737354133504 65530 1056768 ([]) }

-- written_30: its answers
abbrev pub written_30 : List Step
written_30 =
    kernel_step 0 (Map 1056768 12288 rw 50 (negsuc 0) 0) (Ok (Returned 1056768)) (Some (plain 258 261 rw ∷ []))
    ∷ kernel_step 0 (Map 1064960 12288 rw 50 (negsuc 0) 0) (Ok (Returned 1064960)) (Some (plain 258 263 rw ∷ []))
    ∷ kernel_step 0 (Remap 1056768 12288 12288 3 1044480) (Ok (Returned 1044480)) (Some (plain 255 258 rw ∷ plain 261 263 rw ∷ []))
    ∷ kernel_step 0 (Remap 1064960 12288 12288 3 1048576) (Err 14) (Some (plain 255 258 rw ∷ plain 261 263 rw ∷ []))
    ∷ kernel_step 0 (Touch 256 Write) (Ok (Serves 255 258 rw false 0)) None
    ∷ kernel_step 0 (Protect 1052672 8192 rw) (Err 12) (Some (plain 255 258 rw ∷ plain 261 263 rw ∷ []))
    ∷ kernel_step 0 (Touch 256 Write) (Ok (Serves 255 258 rw false 0)) None
    ∷ kernel_step 0 (Protect 1069056 24576 rw) (Err 12) (Some (plain 255 258 rw ∷ plain 261 263 rw ∷ []))
    ∷ kernel_step 0 (Touch 256 Write) (Ok (Serves 255 258 rw false 0)) None
    ∷ kernel_step 0 (Touch 257 Write) (Ok (Serves 255 258 rw false 0)) None
    ∷ kernel_step 0 (Protect 1052672 4096 rw) (Ok (Returned 0)) (Some (plain 255 258 rw ∷ plain 261 263 rw ∷ []))
    ∷ kernel_step 0 (Protect 1048576 8192 rw) (Ok (Returned 0)) (Some (plain 255 258 rw ∷ plain 261 263 rw ∷ []))
    ∷ kernel_step 0 (Map 1060864 12288 rw 50 (negsuc 0) 0) (Ok (Returned 1060864)) (Some (plain 255 258 rw ∷ plain 259 263 rw ∷ []))
    ∷ kernel_step 0 (Protect 1044480 28672 rw) (Err 12) (Some (plain 255 258 rw ∷ plain 259 263 rw ∷ []))
    ∷ kernel_step 0 (Touch 257 Write) (Ok (Serves 255 258 rw false 0)) None
    ∷ kernel_step 0 (Touch 255 Write) (Ok (Serves 255 258 rw false 0)) None
    ∷ kernel_step 0 (Protect 1064960 12288 rw) (Ok (Returned 0)) (Some (plain 255 258 rw ∷ plain 259 263 rw ∷ []))
    ∷ kernel_step 0 (Touch 260 Read) (Ok (Serves 259 263 rw false 0)) None
    ∷ kernel_step 0 (Protect 1048576 8192 rw) (Ok (Returned 0)) (Some (plain 255 258 rw ∷ plain 259 263 rw ∷ []))
    ∷ kernel_step 0 (Fork 1) (Ok (Returned 0)) None
    ∷ kernel_step 0 (Map 1060864 4096 rw 50 (negsuc 0) 0) (Ok (Returned 1060864)) (Some (plain 255 258 rw ∷ plain 259 263 rw ∷ []))
    ∷ kernel_step 0 (Break 1060864) (Ok (Returned 1056768)) (Some (plain 255 258 rw ∷ plain 259 263 rw ∷ []))
    ∷ kernel_step 1 (Touch 259 Write) (Ok (Serves 259 263 rw false 0)) None
    ∷ kernel_step 1 (Remap 1073152 4096 16384 1 0) (Ok (Returned 1073152)) (Some (plain 255 258 rw ∷ plain 259 266 rw ∷ []))
    ∷ kernel_step 0 (Touch 259 Read) (Ok (Serves 259 263 rw false 0)) None
    ∷ kernel_step 0 (Map 1056768 8192 rw 50 (negsuc 0) 0) (Ok (Returned 1056768)) (Some (heap 255 263 rw ∷ []))
    ∷ kernel_step 0 (Remap 1048576 12288 12288 3 1064960) (Ok (Returned 1064960)) (Some (plain 255 256 rw ∷ plain 259 260 rw ∷ plain 260 263 rw ∷ []))
    ∷ kernel_step 1 (Protect 1064960 12288 rw) (Ok (Returned 0)) (Some (plain 255 258 rw ∷ plain 259 266 rw ∷ []))
    ∷ kernel_step 0 (Touch 262 Write) (Ok (Serves 260 263 rw false 0)) None
    ∷ kernel_step 0 (Protect 1048576 4096 rw) (Err 12) (Some (plain 255 256 rw ∷ plain 259 260 rw ∷ plain 260 263 rw ∷ []))
    ∷ []

-- written_limit_31: the kernel
abbrev pub written_limit_31_on : Kernel
written_limit_31_on = record { rules = linux_6_16; machine = record { lowest_built = 16; memory = 245000; stack = 8388608; has_keys = true; huge_always = true; files_are_huge = false; vsyscall = Xonly }; config = config 4096 140737354133504 6 0 (file_row 3 false true 0 ∷ file_row 4 true true 20000 ∷ []) }

-- written_limit_31: its answers
abbrev pub written_limit_31 : List Step
written_limit_31 =
    kernel_step 0 (Map 1064960 4096 rw 50 (negsuc 0) 0) (Ok (Returned 1064960)) (Some (plain 260 261 rw ∷ []))
    ∷ kernel_step 0 (Map 1056768 4096 rw 50 (negsuc 0) 0) (Ok (Returned 1056768)) (Some (plain 258 259 rw ∷ plain 260 261 rw ∷ []))
    ∷ kernel_step 0 (Touch 258 Write) (Ok (Serves 258 259 rw false 0)) None
    ∷ kernel_step 0 (Touch 260 Write) (Ok (Serves 260 261 rw false 0)) None
    ∷ kernel_step 0 (Remap 1052672 12288 12288 7 1048576) (Err 12) (Some (plain 258 259 rw ∷ plain 260 261 rw ∷ []))
    ∷ kernel_step 0 (Touch 258 Write) (Ok (Serves 258 259 rw false 0)) None
    ∷ kernel_step 0 (Touch 258 Write) (Ok (Serves 258 259 rw false 0)) None
    ∷ kernel_step 0 (Touch 258 Write) (Ok (Serves 258 259 rw false 0)) None
    ∷ kernel_step 0 (Remap 1060864 4096 4096 7 1576960) (Err 12) (Some (plain 258 259 rw ∷ plain 260 261 rw ∷ []))
    ∷ kernel_step 0 (Touch 258 Write) (Ok (Serves 258 259 rw false 0)) None
    ∷ kernel_step 0 (Protect 1056768 4096 rw) (Ok (Returned 0)) (Some (plain 258 259 rw ∷ plain 260 261 rw ∷ []))
    ∷ kernel_step 0 (Fork 1) (Ok (Returned 0)) None
    ∷ kernel_step 1 (Touch 258 Write) (Ok (Serves 258 259 rw false 0)) None
    ∷ kernel_step 1 (Touch 258 Write) (Ok (Serves 258 259 rw false 0)) None
    ∷ kernel_step 0 (Protect 1056768 4096 rw) (Ok (Returned 0)) (Some (plain 258 259 rw ∷ plain 260 261 rw ∷ []))
    ∷ kernel_step 0 (Touch 260 Write) (Ok (Serves 260 261 rw false 0)) None
    ∷ kernel_step 0 (Map 1048576 8192 r 50 (negsuc 0) 0) (Ok (Returned 1048576)) (Some (plain 256 258 r ∷ plain 258 259 rw ∷ plain 260 261 rw ∷ []))
    ∷ kernel_step 1 (Protect 1056768 12288 rwx) (Err 12) (Some (plain 258 259 rwx ∷ plain 260 261 rw ∷ []))
    ∷ kernel_step 0 (Map 1052672 8192 r 50 (negsuc 0) 0) (Ok (Returned 1052672)) (Some (plain 256 259 r ∷ plain 260 261 rw ∷ []))
    ∷ kernel_step 1 (Remap 1576960 4096 4096 3 1060864) (Err 12) (Some (plain 258 259 rwx ∷ plain 260 261 rw ∷ []))
    ∷ kernel_step 0 (Touch 257 Write) (Ok (Signal AccErr)) None
    ∷ kernel_step 0 (Remap 1064960 4096 4096 7 1056768) (Err 12) (Some (plain 256 259 r ∷ plain 260 261 rw ∷ []))
    ∷ kernel_step 0 (Touch 258 Write) (Ok (Signal AccErr)) None
    ∷ kernel_step 1 (Touch 258 Read) (Ok (Serves 258 259 rwx false 0)) None
    ∷ kernel_step 1 (Protect 1056768 4096 rwx) (Ok (Returned 0)) (Some (plain 258 259 rwx ∷ plain 260 261 rw ∷ []))
    ∷ kernel_step 0 (Touch 260 Write) (Ok (Serves 260 261 rw false 0)) None
    ∷ kernel_step 0 (Touch 257 Write) (Ok (Signal AccErr)) None
    ∷ kernel_step 1 (Remap 1048576 8192 8192 3 1052672) (Err 12) (Some (plain 258 259 rwx ∷ plain 260 261 rw ∷ []))
    ∷ kernel_step 0 (Touch 260 Write) (Ok (Serves 260 261 rw false 0)) (Some (plain 256 259 r ∷ plain 260 261 rw ∷ []))
    ∷ kernel_step 1 (Map 1064960 8192 r 50 (negsuc 0) 0) (Ok (Returned 1064960)) (Some (plain 258 259 rwx ∷ plain 260 262 r ∷ []))
    ∷ []

-- sealed_34: the kernel
abbrev pub sealed_34_on : Kernel
sealed_34_on = record { rules = linux_6_16; machine = record { lowest_built = 16; memory = 245000; stack = 8388608; has_keys = true; huge_always = true; files_are_huge = false; vsyscall = Xonly }; config = config 4096 140737354133504 65530 0 (file_row 3 false true 20000 ∷ file_row 4 false true 90000 ∷ file_row 5 true true 0 ∷ []) }

-- sealed_34: its answers
abbrev pub sealed_34 : List Step
sealed_34 =
    kernel_step 0 (Map 0 16384 none 34 (negsuc 0) 0) (Ok (Returned 140737354117120)) (Some (plain 34359705595 34359705599 none ∷ []))
    ∷ kernel_step 0 (Map 1122304 8192 rx 17 (pos 3) 4096) (Err 13) (Some (plain 34359705595 34359705599 none ∷ []))
    ∷ kernel_step 0 (Remap 140737354117120 4096 8192 3 1126400) (Ok (Returned 1126400)) (Some (plain 275 277 none ∷ plain 34359705596 34359705599 none ∷ []))
    ∷ kernel_step 0 (Unmap 1126400 8192) (Ok (Returned 0)) (Some (plain 34359705596 34359705599 none ∷ []))
    ∷ kernel_step 0 (Map 140737354133504 4096 x 50 (negsuc 0) 0) (Ok (Returned 140737354133504)) (Some (plain 34359705596 34359705599 none ∷ plain 34359705599 34359705600 x ∷ []))
    ∷ kernel_step 0 (Remap 140737354133504 4096 4096 3 1060864) (Ok (Returned 1060864)) (Some (plain 259 260 x ∷ plain 34359705596 34359705599 none ∷ []))
    ∷ kernel_step 0 (Protect 1060864 4096 none) (Ok (Returned 0)) (Some (plain 259 260 none ∷ plain 34359705596 34359705599 none ∷ []))
    ∷ kernel_step 0 (Touch 259 Write) (Ok (Signal AccErr)) None
    ∷ kernel_step 0 (Map 1069056 2097152 r 2 (pos 5) 12288) (Ok (Returned 1069056)) (Some (plain 259 260 none ∷ filed 261 773 r false 12288 3 ∷ plain 34359705596 34359705599 none ∷ []))
    ∷ kernel_step 0 (Remap 1060864 4096 4096 3 1077248) (Ok (Returned 1077248)) (Some (filed 261 263 r false 12288 3 ∷ plain 263 264 none ∷ filed 264 773 r false 24576 3 ∷ plain 34359705596 34359705599 none ∷ []))
    ∷ kernel_step 0 (Touch 737 Exec) (Ok (Signal BusErr)) None
    ∷ kernel_step 0 (Seal 1077248 4096 0) (Ok (Returned 0)) (Some (filed 261 263 r false 12288 3 ∷ plain 263 264 none ∷ filed 264 773 r false 24576 3 ∷ plain 34359705596 34359705599 none ∷ []))
    ∷ kernel_step 0 (Remap 1077248 4096 4096 3 1126400) (Err 1) (Some (filed 261 263 r false 12288 3 ∷ plain 263 264 none ∷ filed 264 773 r false 24576 3 ∷ plain 34359705596 34359705599 none ∷ []))
    ∷ kernel_step 0 (Map 0 34359738368 w 33 (negsuc 0) 0) (Err 12) (Some (filed 261 263 r false 12288 3 ∷ plain 263 264 none ∷ filed 264 773 r false 24576 3 ∷ plain 34359705596 34359705599 none ∷ []))
    ∷ kernel_step 0 (Seal 1056768 4096 0) (Err 12) (Some (filed 261 263 r false 12288 3 ∷ plain 263 264 none ∷ filed 264 773 r false 24576 3 ∷ plain 34359705596 34359705599 none ∷ []))
    ∷ kernel_step 0 (Seal 1048576 16384 0) (Err 12) (Some (filed 261 263 r false 12288 3 ∷ plain 263 264 none ∷ filed 264 773 r false 24576 3 ∷ plain 34359705596 34359705599 none ∷ []))
    ∷ kernel_step 0 (Protect 1097728 2068480 rw) (Ok (Returned 0)) (Some (filed 261 263 r false 12288 3 ∷ plain 263 264 none ∷ filed 264 268 r false 24576 3 ∷ filed 268 773 rw false 40960 3 ∷ plain 34359705596 34359705599 none ∷ []))
    ∷ kernel_step 0 (Unmap 1081344 32768) (Ok (Returned 0)) (Some (filed 261 263 r false 12288 3 ∷ plain 263 264 none ∷ filed 272 773 rw false 57344 3 ∷ plain 34359705596 34359705599 none ∷ []))
    ∷ kernel_step 0 (Seal 1118208 2048000 0) (Ok (Returned 0)) (Some (filed 261 263 r false 12288 3 ∷ plain 263 264 none ∷ filed 272 273 rw false 57344 3 ∷ filed 273 773 rw false 61440 3 ∷ plain 34359705596 34359705599 none ∷ []))
    ∷ kernel_step 0 (Map 1064960 12288 none 274 (pos 5) 0) (Err 22) (Some (filed 261 263 r false 12288 3 ∷ plain 263 264 none ∷ filed 272 273 rw false 57344 3 ∷ filed 273 773 rw false 61440 3 ∷ plain 34359705596 34359705599 none ∷ []))
    ∷ kernel_step 0 (Map 1118208 16384 rwx 18 (pos 4) 12288) (Err 13) (Some (filed 261 263 r false 12288 3 ∷ plain 263 264 none ∷ filed 272 273 rw false 57344 3 ∷ filed 273 773 rw false 61440 3 ∷ plain 34359705596 34359705599 none ∷ []))
    ∷ kernel_step 0 (Seal 1118208 32768 0) (Ok (Returned 0)) (Some (filed 261 263 r false 12288 3 ∷ plain 263 264 none ∷ filed 272 273 rw false 57344 3 ∷ filed 273 773 rw false 61440 3 ∷ plain 34359705596 34359705599 none ∷ []))
    ∷ kernel_step 0 (Seal 1114112 4096 0) (Ok (Returned 0)) (Some (filed 261 263 r false 12288 3 ∷ plain 263 264 none ∷ filed 272 773 rw false 57344 3 ∷ plain 34359705596 34359705599 none ∷ []))
    ∷ kernel_step 0 (Remap 1114112 2052096 2052096 5 0) (Err 1) (Some (filed 261 263 r false 12288 3 ∷ plain 263 264 none ∷ filed 272 773 rw false 57344 3 ∷ plain 34359705596 34359705599 none ∷ []))
    ∷ kernel_step 0 (Map 0 2097152 w 34 (negsuc 0) 0) (Ok (Returned 140737349943296)) (Some (filed 261 263 r false 12288 3 ∷ plain 263 264 none ∷ filed 272 773 rw false 57344 3 ∷ plain 34359704576 34359705088 w ∷ plain 34359705596 34359705599 none ∷ []))
    ∷ kernel_step 0 (Map 0 2101248 rw 131074 (pos 3) 0) (Err 13) (Some (filed 261 263 r false 12288 3 ∷ plain 263 264 none ∷ filed 272 773 rw false 57344 3 ∷ plain 34359704576 34359705088 w ∷ plain 34359705596 34359705599 none ∷ []))
    ∷ kernel_step 0 (Seal 1069056 8192 0) (Ok (Returned 0)) (Some (filed 261 263 r false 12288 3 ∷ plain 263 264 none ∷ filed 272 773 rw false 57344 3 ∷ plain 34359704576 34359705088 w ∷ plain 34359705596 34359705599 none ∷ []))
    ∷ kernel_step 0 (Seal 1114112 2052096 0) (Ok (Returned 0)) (Some (filed 261 263 r false 12288 3 ∷ plain 263 264 none ∷ filed 272 773 rw false 57344 3 ∷ plain 34359704576 34359705088 w ∷ plain 34359705596 34359705599 none ∷ []))
    ∷ kernel_step 0 (Map 1122304 4096 x 34 (negsuc 0) 0) (Ok (Returned 140737354117120)) (Some (filed 261 263 r false 12288 3 ∷ plain 263 264 none ∷ filed 272 773 rw false 57344 3 ∷ plain 34359704576 34359705088 w ∷ plain 34359705595 34359705596 x ∷ plain 34359705596 34359705599 none ∷ []))
    ∷ kernel_step 0 (Touch 263 Read) (Ok (Signal AccErr)) (Some (filed 261 263 r false 12288 3 ∷ plain 263 264 none ∷ filed 272 773 rw false 57344 3 ∷ plain 34359704576 34359705088 w ∷ plain 34359705595 34359705596 x ∷ plain 34359705596 34359705599 none ∷ []))
    ∷ []

-- written_36: the kernel
abbrev pub written_36_on : Kernel
written_36_on = record { rules = linux_6_16; machine = record { lowest_built = 16; memory = 245000; stack = 8388608; has_keys = true; huge_always = true; files_are_huge = false; vsyscall = Xonly }; config = config 4096 140737354133504 65530 0 ([]) }

-- written_36: its answers
abbrev pub written_36 : List Step
written_36 =
    kernel_step 0 (Map 1052672 34359758848 r 50 (negsuc 0) 0) (Ok (Returned 1052672)) (Some (plain 257 8388870 r ∷ []))
    ∷ kernel_step 0 (Map 1048576 4096 rw 50 (negsuc 0) 0) (Ok (Returned 1048576)) (Some (plain 256 257 rw ∷ plain 257 8388870 r ∷ []))
    ∷ kernel_step 0 (Touch 256 Read) (Ok (Serves 256 257 rw false 0)) None
    ∷ kernel_step 0 (Touch 260 Write) (Ok (Signal AccErr)) None
    ∷ kernel_step 0 (Protect 1048576 12288 r) (Ok (Returned 0)) (Some (plain 256 8388870 r ∷ []))
    ∷ kernel_step 0 (Map 1069056 8192 r 50 (negsuc 0) 0) (Ok (Returned 1069056)) (Some (plain 256 8388870 r ∷ []))
    ∷ kernel_step 0 (Touch 257 Write) (Ok (Signal AccErr)) None
    ∷ kernel_step 0 (Unmap 1073152 4096) (Ok (Returned 0)) (Some (plain 256 262 r ∷ plain 263 8388870 r ∷ []))
    ∷ kernel_step 0 (Map 1048576 8192 rw 50 (negsuc 0) 0) (Ok (Returned 1048576)) (Some (plain 256 258 rw ∷ plain 258 262 r ∷ plain 263 8388870 r ∷ []))
    ∷ kernel_step 0 (Touch 256 Read) (Ok (Serves 256 258 rw false 0)) None
    ∷ kernel_step 0 (Touch 257 Write) (Ok (Serves 256 258 rw false 0)) None
    ∷ kernel_step 0 (Map 1064960 16384 r 50 (negsuc 0) 0) (Ok (Returned 1064960)) (Some (plain 256 258 rw ∷ plain 258 8388870 r ∷ []))
    ∷ kernel_step 0 (Protect 1073152 4194304 r) (Ok (Returned 0)) (Some (plain 256 258 rw ∷ plain 258 8388870 r ∷ []))
    ∷ kernel_step 0 (Protect 1060864 16384 rw) (Ok (Returned 0)) (Some (plain 256 258 rw ∷ plain 258 259 r ∷ plain 259 263 rw ∷ plain 263 8388870 r ∷ []))
    ∷ kernel_step 0 (Touch 262 Write) (Ok (Serves 259 263 rw false 0)) None
    ∷ kernel_step 0 (Protect 1056768 8192 rw) (Ok (Returned 0)) (Some (plain 256 259 rw ∷ plain 259 263 rw ∷ plain 263 8388870 r ∷ []))
    ∷ kernel_step 0 (Touch 263 Write) (Ok (Signal AccErr)) None
    ∷ kernel_step 0 (Protect 1048576 8192 r) (Ok (Returned 0)) (Some (plain 256 258 r ∷ plain 258 259 rw ∷ plain 259 263 rw ∷ plain 263 8388870 r ∷ []))
    ∷ kernel_step 0 (Remap 1069056 4096 4096 7 1056768) (Ok (Returned 1056768)) (Some (plain 256 258 r ∷ plain 258 259 rw ∷ plain 259 263 rw ∷ plain 263 8388870 r ∷ []))
    ∷ kernel_step 0 (Touch 257 Read) (Ok (Serves 256 258 r false 0)) None
    ∷ kernel_step 0 (Map 1060864 8192 r 50 (negsuc 0) 0) (Ok (Returned 1060864)) (Some (plain 256 258 r ∷ plain 258 259 rw ∷ plain 259 261 r ∷ plain 261 263 rw ∷ plain 263 8388870 r ∷ []))
    ∷ kernel_step 0 (Map 1048576 34359758848 r 50 (negsuc 0) 0) (Ok (Returned 1048576)) (Some (plain 256 8388870 r ∷ []))
    ∷ kernel_step 0 (Protect 1069056 4096 rw) (Ok (Returned 0)) (Some (plain 256 261 r ∷ plain 261 262 rw ∷ plain 262 8388870 r ∷ []))
    ∷ kernel_step 0 (Touch 262 Read) (Ok (Serves 262 8388870 r false 0)) None
    ∷ kernel_step 0 (Protect 1073152 12288 rw) (Ok (Returned 0)) (Some (plain 256 261 r ∷ plain 261 265 rw ∷ plain 265 8388870 r ∷ []))
    ∷ kernel_step 0 (Protect 1097728 4096 rw) (Ok (Returned 0)) (Some (plain 256 261 r ∷ plain 261 265 rw ∷ plain 265 268 r ∷ plain 268 269 rw ∷ plain 269 8388870 r ∷ []))
    ∷ kernel_step 0 (Protect 1069056 16384 r) (Ok (Returned 0)) (Some (plain 256 268 r ∷ plain 268 269 rw ∷ plain 269 8388870 r ∷ []))
    ∷ kernel_step 0 (Protect 1097728 4096 r) (Ok (Returned 0)) (Some (plain 256 8388870 r ∷ []))
    ∷ kernel_step 0 (Map 1052672 17179869184 r 50 (negsuc 0) 0) (Ok (Returned 1052672)) (Some (plain 256 8388870 r ∷ []))
    ∷ kernel_step 0 (Touch 256 Read) (Ok (Serves 256 8388870 r false 0)) (Some (plain 256 8388870 r ∷ []))
    ∷ []

-- hard_limit_37: the kernel
abbrev pub hard_limit_37_on : Kernel
hard_limit_37_on = record { rules = linux_6_16; machine = record { lowest_built = 16; memory = 245000; stack = 8388608; has_keys = true; huge_always = true; files_are_huge = false; vsyscall = Xonly }; config = config 4096 140737354133504 8 0 (file_row 3 true false 90000 ∷ file_row 4 true true 90000 ∷ file_row 5 false true 0 ∷ []) }

-- hard_limit_37: its answers
abbrev pub hard_limit_37 : List Step
hard_limit_37 =
    kernel_step 0 (Map 1105920 12288 rw 50 (negsuc 0) 0) (Ok (Returned 1105920)) (Some (plain 270 273 rw ∷ []))
    ∷ kernel_step 0 (Map 0 4096 rw 33 (negsuc 0) 0) (Ok (Returned 140737354129408)) (Some (plain 270 273 rw ∷ filed 34359705598 34359705599 rw true 0 4 ∷ []))
    ∷ kernel_step 0 (Touch 271 Exec) (Ok (Signal AccErr)) None
    ∷ kernel_step 0 (Map 1089536 12288 rw 50 (negsuc 0) 0) (Ok (Returned 1089536)) (Some (plain 266 269 rw ∷ plain 270 273 rw ∷ filed 34359705598 34359705599 rw true 0 4 ∷ []))
    ∷ kernel_step 0 (Remap 1089536 12288 16384 1 0) (Ok (Returned 1089536)) (Some (plain 266 273 rw ∷ filed 34359705598 34359705599 rw true 0 4 ∷ []))
    ∷ kernel_step 0 (Map 1077248 12288 r 50 (negsuc 0) 0) (Ok (Returned 1077248)) (Some (plain 263 266 r ∷ plain 266 273 rw ∷ filed 34359705598 34359705599 rw true 0 4 ∷ []))
    ∷ kernel_step 0 (Remap 1089536 28672 28672 3 1110016) (Err 12) (Some (plain 263 266 r ∷ plain 266 273 rw ∷ filed 34359705598 34359705599 rw true 0 4 ∷ []))
    ∷ kernel_step 0 (Seal 1089536 20480 0) (Ok (Returned 0)) (Some (plain 263 266 r ∷ plain 266 271 rw ∷ plain 271 273 rw ∷ filed 34359705598 34359705599 rw true 0 4 ∷ []))
    ∷ kernel_step 0 (Remap 1114112 0 4096 1 0) (Err 22) (Some (plain 263 266 r ∷ plain 266 271 rw ∷ plain 271 273 rw ∷ filed 34359705598 34359705599 rw true 0 4 ∷ []))
    ∷ kernel_step 0 (Protect 1077248 40960 rw) (Err 1) (Some (plain 263 266 rw ∷ plain 266 271 rw ∷ plain 271 273 rw ∷ filed 34359705598 34359705599 rw true 0 4 ∷ []))
    ∷ kernel_step 0 (Protect 1077248 12288 rw) (Ok (Returned 0)) (Some (plain 263 266 rw ∷ plain 266 271 rw ∷ plain 271 273 rw ∷ filed 34359705598 34359705599 rw true 0 4 ∷ []))
    ∷ kernel_step 0 (Protect 1089536 20480 r) (Err 1) (Some (plain 263 266 rw ∷ plain 266 271 rw ∷ plain 271 273 rw ∷ filed 34359705598 34359705599 rw true 0 4 ∷ []))
    ∷ kernel_step 0 (Touch 270 Read) (Ok (Serves 266 271 rw false 0)) None
    ∷ kernel_step 0 (Remap 1077248 0 12288 1 0) (Err 22) (Some (plain 263 266 rw ∷ plain 266 271 rw ∷ plain 271 273 rw ∷ filed 34359705598 34359705599 rw true 0 4 ∷ []))
    ∷ kernel_step 0 (Touch 272 Exec) (Ok (Signal AccErr)) None
    ∷ kernel_step 0 (Map 1097728 8192 r 16434 (negsuc 0) 0) (Err 1) (Some (plain 263 266 rw ∷ plain 266 271 rw ∷ plain 271 273 rw ∷ filed 34359705598 34359705599 rw true 0 4 ∷ []))
    ∷ kernel_step 0 (Map 0 4096 rw 34 (negsuc 0) 0) (Ok (Returned 140737354125312)) (Some (plain 263 266 rw ∷ plain 266 271 rw ∷ plain 271 273 rw ∷ plain 34359705597 34359705598 rw ∷ filed 34359705598 34359705599 rw true 0 4 ∷ []))
    ∷ kernel_step 0 (Map 0 8192 r 32801 (negsuc 0) 0) (Ok (Returned 140737354117120)) (Some (plain 263 266 rw ∷ plain 266 271 rw ∷ plain 271 273 rw ∷ filed 34359705595 34359705597 r true 0 5 ∷ plain 34359705597 34359705598 rw ∷ filed 34359705598 34359705599 rw true 0 4 ∷ []))
    ∷ kernel_step 0 (Map 0 16384 r 34 (negsuc 0) 0) (Ok (Returned 140737354100736)) (Some (plain 263 266 rw ∷ plain 266 271 rw ∷ plain 271 273 rw ∷ plain 34359705591 34359705595 r ∷ filed 34359705595 34359705597 r true 0 5 ∷ plain 34359705597 34359705598 rw ∷ filed 34359705598 34359705599 rw true 0 4 ∷ []))
    ∷ kernel_step 0 (Protect 1089536 4096 rw) (Err 1) (Some (plain 263 266 rw ∷ plain 266 271 rw ∷ plain 271 273 rw ∷ plain 34359705591 34359705595 r ∷ filed 34359705595 34359705597 r true 0 5 ∷ plain 34359705597 34359705598 rw ∷ filed 34359705598 34359705599 rw true 0 4 ∷ []))
    ∷ kernel_step 0 (Touch 265 Write) (Ok (Serves 263 266 rw false 0)) None
    ∷ kernel_step 0 (Remap 1089536 4096 4096 5 0) (Err 12) (Some (plain 263 266 rw ∷ plain 266 271 rw ∷ plain 271 273 rw ∷ plain 34359705591 34359705595 r ∷ filed 34359705595 34359705597 r true 0 5 ∷ plain 34359705597 34359705598 rw ∷ filed 34359705598 34359705599 rw true 0 4 ∷ []))
    ∷ kernel_step 0 (Map 1085440 12288 rw 18 (pos 3) 12288) (Err 1) (Some (plain 263 265 rw ∷ plain 265 266 rw ∷ plain 266 271 rw ∷ plain 271 273 rw ∷ plain 34359705591 34359705595 r ∷ filed 34359705595 34359705597 r true 0 5 ∷ plain 34359705597 34359705598 rw ∷ filed 34359705598 34359705599 rw true 0 4 ∷ []))
    ∷ kernel_step 0 (Protect 1089536 4096 r) (Err 1) (Some (plain 263 265 rw ∷ plain 265 266 rw ∷ plain 266 271 rw ∷ plain 271 273 rw ∷ plain 34359705591 34359705595 r ∷ filed 34359705595 34359705597 r true 0 5 ∷ plain 34359705597 34359705598 rw ∷ filed 34359705598 34359705599 rw true 0 4 ∷ []))
    ∷ kernel_step 0 (Map 1105920 16384 rw 32787 (pos 3) 4096) (Err 13) (Some (plain 263 265 rw ∷ plain 265 266 rw ∷ plain 266 271 rw ∷ plain 271 273 rw ∷ plain 34359705591 34359705595 r ∷ filed 34359705595 34359705597 r true 0 5 ∷ plain 34359705597 34359705598 rw ∷ filed 34359705598 34359705599 rw true 0 4 ∷ []))
    ∷ kernel_step 0 (Unmap 1089536 20480) (Err 1) (Some (plain 263 265 rw ∷ plain 265 266 rw ∷ plain 266 271 rw ∷ plain 271 273 rw ∷ plain 34359705591 34359705595 r ∷ filed 34359705595 34359705597 r true 0 5 ∷ plain 34359705597 34359705598 rw ∷ filed 34359705598 34359705599 rw true 0 4 ∷ []))
    ∷ kernel_step 0 (Protect 1114112 4096 r) (Err 12) (Some (plain 263 265 rw ∷ plain 265 266 rw ∷ plain 266 271 rw ∷ plain 271 273 rw ∷ plain 34359705591 34359705595 r ∷ filed 34359705595 34359705597 r true 0 5 ∷ plain 34359705597 34359705598 rw ∷ filed 34359705598 34359705599 rw true 0 4 ∷ []))
    ∷ kernel_step 0 (Touch 265 Write) (Ok (Serves 265 266 rw false 0)) None
    ∷ kernel_step 0 (Seal 1089536 4096 0) (Ok (Returned 0)) (Some (plain 263 265 rw ∷ plain 265 266 rw ∷ plain 266 271 rw ∷ plain 271 273 rw ∷ plain 34359705591 34359705595 r ∷ filed 34359705595 34359705597 r true 0 5 ∷ plain 34359705597 34359705598 rw ∷ filed 34359705598 34359705599 rw true 0 4 ∷ []))
    ∷ kernel_step 0 (Remap 1085440 4096 12288 1 0) (Err 12) (Some (plain 263 265 rw ∷ plain 265 266 rw ∷ plain 266 271 rw ∷ plain 271 273 rw ∷ plain 34359705591 34359705595 r ∷ filed 34359705595 34359705597 r true 0 5 ∷ plain 34359705597 34359705598 rw ∷ filed 34359705598 34359705599 rw true 0 4 ∷ []))
    ∷ []

-- hard_40: the kernel
abbrev pub hard_40_on : Kernel
hard_40_on = record { rules = linux_6_16; machine = record { lowest_built = 16; memory = 245000; stack = 8388608; has_keys = true; huge_always = true; files_are_huge = false; vsyscall = Xonly }; config = config 4096 140737354133504 65530 0 ([]) }

-- hard_40: its answers
abbrev pub hard_40 : List Step
hard_40 =
    kernel_step 0 (Map 1077248 4096 r 50 (negsuc 0) 0) (Ok (Returned 1077248)) (Some (plain 263 264 r ∷ []))
    ∷ kernel_step 0 (Map 1077248 8192 rw 50 (negsuc 0) 0) (Ok (Returned 1077248)) (Some (plain 263 265 rw ∷ []))
    ∷ kernel_step 0 (Map 0 4096 rw 34 (negsuc 0) 0) (Ok (Returned 140737354129408)) (Some (plain 263 265 rw ∷ plain 34359705598 34359705599 rw ∷ []))
    ∷ kernel_step 0 (Remap 1081344 4096 4096 7 1073152) (Ok (Returned 1073152)) (Some (plain 262 265 rw ∷ plain 34359705598 34359705599 rw ∷ []))
    ∷ kernel_step 0 (Protect 1073152 4096 rw) (Ok (Returned 0)) (Some (plain 262 265 rw ∷ plain 34359705598 34359705599 rw ∷ []))
    ∷ kernel_step 0 (Map 1081344 4096 rw 1048610 (negsuc 0) 0) (Err 17) (Some (plain 262 265 rw ∷ plain 34359705598 34359705599 rw ∷ []))
    ∷ kernel_step 0 (Touch 262 Exec) (Ok (Signal AccErr)) None
    ∷ kernel_step 0 (Touch 263 Read) (Ok (Serves 262 265 rw false 0)) None
    ∷ kernel_step 0 (Remap 1077248 8192 8192 5 0) (Ok (Returned 140737354121216)) (Some (plain 262 265 rw ∷ plain 34359705596 34359705598 rw ∷ plain 34359705598 34359705599 rw ∷ []))
    ∷ kernel_step 0 (Remap 1077248 20480 2097152 1 0) (Err 14) (Some (plain 262 265 rw ∷ plain 34359705596 34359705598 rw ∷ plain 34359705598 34359705599 rw ∷ []))
    ∷ kernel_step 0 (Map 1118208 16384 rw 34 (negsuc 0) 0) (Ok (Returned 1118208)) (Some (plain 262 265 rw ∷ plain 273 277 rw ∷ plain 34359705596 34359705598 rw ∷ plain 34359705598 34359705599 rw ∷ []))
    ∷ kernel_step 0 (Map 1077248 8192 rw 50 (negsuc 0) 0) (Ok (Returned 1077248)) (Some (plain 262 263 rw ∷ plain 263 265 rw ∷ plain 273 277 rw ∷ plain 34359705596 34359705598 rw ∷ plain 34359705598 34359705599 rw ∷ []))
    ∷ kernel_step 0 (Protect 1093632 16384 r) (Err 12) (Some (plain 262 263 rw ∷ plain 263 265 rw ∷ plain 273 277 rw ∷ plain 34359705596 34359705598 rw ∷ plain 34359705598 34359705599 rw ∷ []))
    ∷ kernel_step 0 (Protect 1073152 20480 r) (Err 12) (Some (plain 262 265 r ∷ plain 273 277 rw ∷ plain 34359705596 34359705598 rw ∷ plain 34359705598 34359705599 rw ∷ []))
    ∷ kernel_step 0 (Protect 1118208 12288 r) (Ok (Returned 0)) (Some (plain 262 265 r ∷ plain 273 276 r ∷ plain 276 277 rw ∷ plain 34359705596 34359705598 rw ∷ plain 34359705598 34359705599 rw ∷ []))
    ∷ kernel_step 0 (Map 0 4194304 rw 34 (negsuc 0) 0) (Ok (Returned 140737347846144)) (Some (plain 262 265 r ∷ plain 273 276 r ∷ plain 276 277 rw ∷ plain 34359704064 34359705088 rw ∷ plain 34359705596 34359705598 rw ∷ plain 34359705598 34359705599 rw ∷ []))
    ∷ kernel_step 0 (Map 0 3145728 rw 34 (negsuc 0) 0) (Ok (Returned 140737344700416)) (Some (plain 262 265 r ∷ plain 273 276 r ∷ plain 276 277 rw ∷ plain 34359703296 34359705088 rw ∷ plain 34359705596 34359705598 rw ∷ plain 34359705598 34359705599 rw ∷ []))
    ∷ kernel_step 0 (Protect 1073152 12288 rw) (Ok (Returned 0)) (Some (plain 262 265 rw ∷ plain 273 276 r ∷ plain 276 277 rw ∷ plain 34359703296 34359705088 rw ∷ plain 34359705596 34359705598 rw ∷ plain 34359705598 34359705599 rw ∷ []))
    ∷ kernel_step 0 (Remap 1118208 0 12288 1 0) (Err 22) (Some (plain 262 265 rw ∷ plain 273 276 r ∷ plain 276 277 rw ∷ plain 34359703296 34359705088 rw ∷ plain 34359705596 34359705598 rw ∷ plain 34359705598 34359705599 rw ∷ []))
    ∷ kernel_step 0 (Touch 273 Exec) (Ok (Signal AccErr)) None
    ∷ kernel_step 0 (Map 1118208 4096 rw 306 (negsuc 0) 0) (Ok (Returned 1118208)) (Some (plain 262 265 rw ∷ plain 273 274 rw ∷ plain 274 276 r ∷ plain 276 277 rw ∷ plain 34359703296 34359705088 rw ∷ plain 34359705596 34359705598 rw ∷ plain 34359705598 34359705599 rw ∷ []))
    ∷ kernel_step 0 (Touch 262 Read) (Ok (Serves 262 265 rw false 0)) None
    ∷ kernel_step 0 (Map 1048576 4096 r 1048610 (negsuc 0) 0) (Ok (Returned 1048576)) (Some (plain 256 257 r ∷ plain 262 265 rw ∷ plain 273 274 rw ∷ plain 274 276 r ∷ plain 276 277 rw ∷ plain 34359703296 34359705088 rw ∷ plain 34359705596 34359705598 rw ∷ plain 34359705598 34359705599 rw ∷ []))
    ∷ kernel_step 0 (Remap 1073152 12288 24576 1 0) (Ok (Returned 1073152)) (Some (plain 256 257 r ∷ plain 262 268 rw ∷ plain 273 274 rw ∷ plain 274 276 r ∷ plain 276 277 rw ∷ plain 34359703296 34359705088 rw ∷ plain 34359705596 34359705598 rw ∷ plain 34359705598 34359705599 rw ∷ []))
    ∷ kernel_step 0 (Remap 1130496 0 4096 1 0) (Err 22) (Some (plain 256 257 r ∷ plain 262 268 rw ∷ plain 273 274 rw ∷ plain 274 276 r ∷ plain 276 277 rw ∷ plain 34359703296 34359705088 rw ∷ plain 34359705596 34359705598 rw ∷ plain 34359705598 34359705599 rw ∷ []))
    ∷ kernel_step 0 (Remap 1130496 0 4096 3 1064960) (Err 22) (Some (plain 256 257 r ∷ plain 262 268 rw ∷ plain 273 274 rw ∷ plain 274 276 r ∷ plain 276 277 rw ∷ plain 34359703296 34359705088 rw ∷ plain 34359705596 34359705598 rw ∷ plain 34359705598 34359705599 rw ∷ []))
    ∷ kernel_step 0 (Unmap 1077248 4096) (Ok (Returned 0)) (Some (plain 256 257 r ∷ plain 262 263 rw ∷ plain 264 268 rw ∷ plain 273 274 rw ∷ plain 274 276 r ∷ plain 276 277 rw ∷ plain 34359703296 34359705088 rw ∷ plain 34359705596 34359705598 rw ∷ plain 34359705598 34359705599 rw ∷ []))
    ∷ kernel_step 0 (Remap 1130496 0 4096 1 0) (Err 22) (Some (plain 256 257 r ∷ plain 262 263 rw ∷ plain 264 268 rw ∷ plain 273 274 rw ∷ plain 274 276 r ∷ plain 276 277 rw ∷ plain 34359703296 34359705088 rw ∷ plain 34359705596 34359705598 rw ∷ plain 34359705598 34359705599 rw ∷ []))
    ∷ kernel_step 0 (Unmap 1048576 4096) (Ok (Returned 0)) (Some (plain 262 263 rw ∷ plain 264 268 rw ∷ plain 273 274 rw ∷ plain 274 276 r ∷ plain 276 277 rw ∷ plain 34359703296 34359705088 rw ∷ plain 34359705596 34359705598 rw ∷ plain 34359705598 34359705599 rw ∷ []))
    ∷ kernel_step 0 (Map 0 3145728 rw 34 (negsuc 0) 0) (Ok (Returned 140737341554688)) (Some (plain 262 263 rw ∷ plain 264 268 rw ∷ plain 273 274 rw ∷ plain 274 276 r ∷ plain 276 277 rw ∷ plain 34359702528 34359705088 rw ∷ plain 34359705596 34359705598 rw ∷ plain 34359705598 34359705599 rw ∷ []))
    ∷ []

-- written_41: the kernel
abbrev pub written_41_on : Kernel
written_41_on = record { rules = linux_6_16; machine = record { lowest_built = 16; memory = 245000; stack = 8388608; has_keys = true; huge_always = true; files_are_huge = false; vsyscall = Xonly }; config = config 4096 140737354133504 65530 0 (file_row 3 true true 90000 ∷ file_row 4 false true 20000 ∷ file_row 5 true false 5000 ∷ []) }

-- written_41: its answers
abbrev pub written_41 : List Step
written_41 =
    kernel_step 0 (Map 1085440 4096 rw 50 (negsuc 0) 0) (Ok (Returned 1085440)) (Some (plain 265 266 rw ∷ []))
    ∷ kernel_step 0 (Map 1081344 16384 rw 50 (negsuc 0) 0) (Ok (Returned 1081344)) (Some (plain 264 268 rw ∷ []))
    ∷ kernel_step 0 (Protect 1085440 4096 rw) (Ok (Returned 0)) (Some (plain 264 268 rw ∷ []))
    ∷ kernel_step 0 (Map 1056768 4096 r 50 (negsuc 0) 0) (Ok (Returned 1056768)) (Some (plain 258 259 r ∷ plain 264 268 rw ∷ []))
    ∷ kernel_step 0 (Touch 258 Write) (Ok (Signal AccErr)) None
    ∷ kernel_step 0 (Touch 267 Write) (Ok (Serves 264 268 rw false 0)) None
    ∷ kernel_step 0 (Touch 265 Write) (Ok (Serves 264 268 rw false 0)) None
    ∷ kernel_step 0 (Remap 1064960 20480 20480 3 1064960) (Err 14) (Some (plain 258 259 r ∷ plain 264 268 rw ∷ []))
    ∷ kernel_step 0 (Touch 266 Write) (Ok (Serves 264 268 rw false 0)) None
    ∷ kernel_step 0 (Map 1077248 8192 rw 50 (negsuc 0) 0) (Ok (Returned 1077248)) (Some (plain 258 259 r ∷ plain 263 268 rw ∷ []))
    ∷ kernel_step 0 (Protect 1093632 4096 r) (Ok (Returned 0)) (Some (plain 258 259 r ∷ plain 263 267 rw ∷ plain 267 268 r ∷ []))
    ∷ kernel_step 0 (Remap 1077248 8192 8192 3 1077248) (Err 22) (Some (plain 258 259 r ∷ plain 263 267 rw ∷ plain 267 268 r ∷ []))
    ∷ kernel_step 0 (Protect 1085440 12288 rw) (Ok (Returned 0)) (Some (plain 258 259 r ∷ plain 263 268 rw ∷ []))
    ∷ kernel_step 0 (Touch 263 Write) (Ok (Serves 263 268 rw false 0)) None
    ∷ kernel_step 0 (Touch 258 Write) (Ok (Signal AccErr)) None
    ∷ kernel_step 0 (Touch 264 Write) (Ok (Serves 263 268 rw false 0)) None
    ∷ kernel_step 0 (Touch 266 Write) (Ok (Serves 263 268 rw false 0)) None
    ∷ kernel_step 0 (Remap 1069056 4096 4096 7 1605632) (Err 14) (Some (plain 258 259 r ∷ plain 263 268 rw ∷ []))
    ∷ kernel_step 0 (Remap 1056768 4096 4096 7 1576960) (Ok (Returned 1576960)) (Some (plain 258 259 r ∷ plain 263 268 rw ∷ plain 385 386 r ∷ []))
    ∷ kernel_step 0 (Touch 265 Exec) (Ok (Signal AccErr)) None
    ∷ kernel_step 0 (Map 1077248 8192 r 16434 (negsuc 0) 0) (Ok (Returned 1077248)) (Some (plain 258 259 r ∷ plain 263 265 r ∷ plain 265 268 rw ∷ plain 385 386 r ∷ []))
    ∷ kernel_step 0 (Touch 263 Write) (Ok (Signal AccErr)) None
    ∷ kernel_step 0 (Protect 1073152 12288 r) (Err 12) (Some (plain 258 259 r ∷ plain 263 265 r ∷ plain 265 268 rw ∷ plain 385 386 r ∷ []))
    ∷ kernel_step 0 (Remap 1605632 4096 4096 3 1069056) (Err 14) (Some (plain 258 259 r ∷ plain 263 265 r ∷ plain 265 268 rw ∷ plain 385 386 r ∷ []))
    ∷ kernel_step 0 (Remap 1077248 12288 12288 3 1638400) (Err 14) (Some (plain 258 259 r ∷ plain 263 265 r ∷ plain 265 268 rw ∷ plain 385 386 r ∷ []))
    ∷ kernel_step 0 (Map 1064960 12288 r 50 (negsuc 0) 0) (Ok (Returned 1064960)) (Some (plain 258 259 r ∷ plain 260 263 r ∷ plain 263 265 r ∷ plain 265 268 rw ∷ plain 385 386 r ∷ []))
    ∷ kernel_step 0 (Touch 266 Write) (Ok (Serves 265 268 rw false 0)) None
    ∷ kernel_step 0 (Protect 1077248 8192 r) (Ok (Returned 0)) (Some (plain 258 259 r ∷ plain 260 263 r ∷ plain 263 265 r ∷ plain 265 268 rw ∷ plain 385 386 r ∷ []))
    ∷ kernel_step 0 (Map 1089536 4096 rw 50 (negsuc 0) 0) (Ok (Returned 1089536)) (Some (plain 258 259 r ∷ plain 260 263 r ∷ plain 263 265 r ∷ plain 265 268 rw ∷ plain 385 386 r ∷ []))
    ∷ kernel_step 0 (Remap 1089536 4096 4096 7 1638400) (Ok (Returned 1638400)) (Some (plain 258 259 r ∷ plain 260 263 r ∷ plain 263 265 r ∷ plain 265 268 rw ∷ plain 385 386 r ∷ plain 400 401 rw ∷ []))
    ∷ []

-- hard_43: the kernel
abbrev pub hard_43_on : Kernel
hard_43_on = record { rules = linux_6_16; machine = record { lowest_built = 16; memory = 245000; stack = 8388608; has_keys = true; huge_always = true; files_are_huge = false; vsyscall = Xonly }; config = config 4096 140737354133504 65530 1064960 ([]) }

-- hard_43: its answers
abbrev pub hard_43 : List Step
hard_43 =
    kernel_step 0 (Map 1085440 4096 rw 49 (negsuc 0) 0) (Ok (Returned 1085440)) (Some (filed 265 266 rw true 0 1 ∷ []))
    ∷ kernel_step 0 (Map 1118208 8192 r 50 (negsuc 0) 0) (Ok (Returned 1118208)) (Some (filed 265 266 rw true 0 1 ∷ plain 273 275 r ∷ []))
    ∷ kernel_step 0 (Protect 1118208 12288 rw) (Err 12) (Some (filed 265 266 rw true 0 1 ∷ plain 273 275 rw ∷ []))
    ∷ kernel_step 0 (Break 1060856) (Ok (Returned 1064960)) (Some (filed 265 266 rw true 0 1 ∷ plain 273 275 rw ∷ []))
    ∷ kernel_step 0 (Touch 265 Read) (Ok (Serves 265 266 rw true 0)) None
    ∷ kernel_step 0 (Map 1060864 4096 rw 50 (negsuc 0) 0) (Ok (Returned 1060864)) (Some (plain 259 260 rw ∷ filed 265 266 rw true 0 1 ∷ plain 273 275 rw ∷ []))
    ∷ kernel_step 0 (Protect 1118208 8192 rw) (Ok (Returned 0)) (Some (plain 259 260 rw ∷ filed 265 266 rw true 0 1 ∷ plain 273 275 rw ∷ []))
    ∷ kernel_step 0 (Protect 1073152 4096 rw) (Err 12) (Some (plain 259 260 rw ∷ filed 265 266 rw true 0 1 ∷ plain 273 275 rw ∷ []))
    ∷ kernel_step 0 (Touch 265 Write) (Ok (Serves 265 266 rw true 0)) None
    ∷ kernel_step 0 (Remap 1118208 8192 16384 3 1044480) (Ok (Returned 1044480)) (Some (plain 255 260 rw ∷ filed 265 266 rw true 0 1 ∷ []))
    ∷ kernel_step 0 (Map 1105920 4096 rw 50 (negsuc 0) 0) (Ok (Returned 1105920)) (Some (plain 255 260 rw ∷ filed 265 266 rw true 0 1 ∷ plain 270 271 rw ∷ []))
    ∷ kernel_step 0 (Protect 1105920 4096 rw) (Ok (Returned 0)) (Some (plain 255 260 rw ∷ filed 265 266 rw true 0 1 ∷ plain 270 271 rw ∷ []))
    ∷ kernel_step 0 (Remap 1085440 4096 4096 1 0) (Ok (Returned 1085440)) (Some (plain 255 260 rw ∷ filed 265 266 rw true 0 1 ∷ plain 270 271 rw ∷ []))
    ∷ kernel_step 0 (Protect 1044480 20480 rw) (Ok (Returned 0)) (Some (plain 255 260 rw ∷ filed 265 266 rw true 0 1 ∷ plain 270 271 rw ∷ []))
    ∷ kernel_step 0 (Touch 270 Write) (Ok (Serves 270 271 rw false 0)) None
    ∷ kernel_step 0 (Protect 1044480 20480 rw) (Ok (Returned 0)) (Some (plain 255 260 rw ∷ filed 265 266 rw true 0 1 ∷ plain 270 271 rw ∷ []))
    ∷ kernel_step 0 (Protect 1093632 16384 r) (Err 12) (Some (plain 255 260 rw ∷ filed 265 266 rw true 0 1 ∷ plain 270 271 rw ∷ []))
    ∷ kernel_step 0 (Break 1056760) (Ok (Returned 1064960)) (Some (plain 255 260 rw ∷ filed 265 266 rw true 0 1 ∷ plain 270 271 rw ∷ []))
    ∷ kernel_step 0 (Map 1097728 8192 rw 50 (negsuc 0) 0) (Ok (Returned 1097728)) (Some (plain 255 260 rw ∷ filed 265 266 rw true 0 1 ∷ plain 268 271 rw ∷ []))
    ∷ kernel_step 0 (Remap 1097728 12288 4096 1 0) (Ok (Returned 1097728)) (Some (plain 255 260 rw ∷ filed 265 266 rw true 0 1 ∷ plain 268 269 rw ∷ []))
    ∷ kernel_step 0 (Break 1081344) (Ok (Returned 1081344)) (Some (plain 255 260 rw ∷ heap 260 264 rw ∷ filed 265 266 rw true 0 1 ∷ plain 268 269 rw ∷ []))
    ∷ kernel_step 0 (Break 1085440) (Ok (Returned 1081344)) (Some (plain 255 260 rw ∷ heap 260 264 rw ∷ filed 265 266 rw true 0 1 ∷ plain 268 269 rw ∷ []))
    ∷ kernel_step 0 (Break 1089536) (Ok (Returned 1081344)) (Some (plain 255 260 rw ∷ heap 260 264 rw ∷ filed 265 266 rw true 0 1 ∷ plain 268 269 rw ∷ []))
    ∷ kernel_step 0 (Touch 265 Write) (Ok (Serves 265 266 rw true 0)) None
    ∷ kernel_step 0 (Touch 265 Write) (Ok (Serves 265 266 rw true 0)) None
    ∷ kernel_step 0 (Map 1056768 16384 rw 49 (negsuc 0) 0) (Ok (Returned 1056768)) (Some (plain 255 258 rw ∷ filed 258 262 rw true 0 2 ∷ heap 262 264 rw ∷ filed 265 266 rw true 0 1 ∷ plain 268 269 rw ∷ []))
    ∷ kernel_step 0 (Protect 1085440 4096 rw) (Ok (Returned 0)) (Some (plain 255 258 rw ∷ filed 258 262 rw true 0 2 ∷ heap 262 264 rw ∷ filed 265 266 rw true 0 1 ∷ plain 268 269 rw ∷ []))
    ∷ kernel_step 0 (Unmap 1056768 16384) (Ok (Returned 0)) (Some (plain 255 258 rw ∷ heap 262 264 rw ∷ filed 265 266 rw true 0 1 ∷ plain 268 269 rw ∷ []))
    ∷ kernel_step 0 (Map 1085440 12288 r 50 (negsuc 0) 0) (Ok (Returned 1085440)) (Some (plain 255 258 rw ∷ heap 262 264 rw ∷ plain 265 268 r ∷ plain 268 269 rw ∷ []))
    ∷ kernel_step 0 (Remap 1073152 28672 24576 1 0) (Ok (Returned 1073152)) (Some (plain 255 258 rw ∷ heap 262 264 rw ∷ plain 265 268 r ∷ []))
    ∷ []

-- hard_limit_45: the kernel
abbrev pub hard_limit_45_on : Kernel
hard_limit_45_on = record { rules = linux_6_16; machine = record { lowest_built = 16; memory = 245000; stack = 8388608; has_keys = true; huge_always = true; files_are_huge = false; vsyscall = Xonly }; config = config 4096 140737354133504 10 0 ([]) }

-- hard_limit_45: its answers
abbrev pub hard_limit_45 : List Step
hard_limit_45 =
    kernel_step 0 (Map 0 8192 rw 33 (negsuc 0) 0) (Ok (Returned 140737354125312)) (Some (filed 34359705597 34359705599 rw true 0 1 ∷ []))
    ∷ kernel_step 0 (Map 1056768 16384 rw 50 (negsuc 0) 0) (Ok (Returned 1056768)) (Some (plain 258 262 rw ∷ filed 34359705597 34359705599 rw true 0 1 ∷ []))
    ∷ kernel_step 0 (Touch 258 Exec) (Ok (Signal AccErr)) None
    ∷ kernel_step 0 (Touch 260 Write) (Ok (Serves 258 262 rw false 0)) None
    ∷ kernel_step 0 (Remap 1060864 4096 4096 5 0) (Ok (Returned 140737354121216)) (Some (plain 258 262 rw ∷ plain 34359705596 34359705597 rw ∷ filed 34359705597 34359705599 rw true 0 1 ∷ []))
    ∷ kernel_step 0 (Remap 1056768 16384 24576 3 1073152) (Ok (Returned 1073152)) (Some (plain 262 268 rw ∷ plain 34359705596 34359705597 rw ∷ filed 34359705597 34359705599 rw true 0 1 ∷ []))
    ∷ kernel_step 0 (Map 0 3145728 rw 34 (negsuc 0) 0) (Ok (Returned 140737350975488)) (Some (plain 262 268 rw ∷ plain 34359704828 34359705596 rw ∷ plain 34359705596 34359705597 rw ∷ filed 34359705597 34359705599 rw true 0 1 ∷ []))
    ∷ kernel_step 0 (Map 0 34359738368 r 34 (negsuc 0) 0) (Ok (Returned 140702990204928)) (Some (plain 262 268 rw ∷ plain 34351315968 34359704576 r ∷ plain 34359704828 34359705596 rw ∷ plain 34359705596 34359705597 rw ∷ filed 34359705597 34359705599 rw true 0 1 ∷ []))
    ∷ kernel_step 0 (Map 0 4194304 rw 34 (negsuc 0) 0) (Ok (Returned 140702986010624)) (Some (plain 262 268 rw ∷ plain 34351314944 34351315968 rw ∷ plain 34351315968 34359704576 r ∷ plain 34359704828 34359705596 rw ∷ plain 34359705596 34359705597 rw ∷ filed 34359705597 34359705599 rw true 0 1 ∷ []))
    ∷ kernel_step 0 (Touch 262 Write) (Ok (Serves 262 268 rw false 0)) None
    ∷ kernel_step 0 (Touch 265 Read) (Ok (Serves 262 268 rw false 0)) None
    ∷ kernel_step 0 (Touch 264 Write) (Ok (Serves 262 268 rw false 0)) None
    ∷ kernel_step 0 (Remap 1073152 24576 24576 7 1105920) (Err 12) (Some (plain 262 268 rw ∷ plain 34351314944 34351315968 rw ∷ plain 34351315968 34359704576 r ∷ plain 34359704828 34359705596 rw ∷ plain 34359705596 34359705597 rw ∷ filed 34359705597 34359705599 rw true 0 1 ∷ []))
    ∷ kernel_step 0 (Unmap 1073152 24576) (Ok (Returned 0)) (Some (plain 34351314944 34351315968 rw ∷ plain 34351315968 34359704576 r ∷ plain 34359704828 34359705596 rw ∷ plain 34359705596 34359705597 rw ∷ filed 34359705597 34359705599 rw true 0 1 ∷ []))
    ∷ kernel_step 0 (Map 0 12288 r 16418 (negsuc 0) 0) (Ok (Returned 140737350963200)) (Some (plain 34351314944 34351315968 rw ∷ plain 34351315968 34359704576 r ∷ plain 34359704825 34359704828 r ∷ plain 34359704828 34359705596 rw ∷ plain 34359705596 34359705597 rw ∷ filed 34359705597 34359705599 rw true 0 1 ∷ []))
    ∷ kernel_step 0 (Protect 140737351020544 3100672 rw) (Ok (Returned 0)) (Some (plain 34351314944 34351315968 rw ∷ plain 34351315968 34359704576 r ∷ plain 34359704825 34359704828 r ∷ plain 34359704828 34359705596 rw ∷ plain 34359705596 34359705597 rw ∷ filed 34359705597 34359705599 rw true 0 1 ∷ []))
    ∷ kernel_step 0 (Map 0 8589934592 rw 34 (negsuc 0) 0) (Err 12) (Some (plain 34351314944 34351315968 rw ∷ plain 34351315968 34359704576 r ∷ plain 34359704825 34359704828 r ∷ plain 34359704828 34359705596 rw ∷ plain 34359705596 34359705597 rw ∷ filed 34359705597 34359705599 rw true 0 1 ∷ []))
    ∷ kernel_step 0 (Touch 34351316955 Write) (Ok (Signal AccErr)) None
    ∷ kernel_step 0 (Map 1093632 8192 rw 50 (negsuc 0) 0) (Ok (Returned 1093632)) (Some (plain 267 269 rw ∷ plain 34351314944 34351315968 rw ∷ plain 34351315968 34359704576 r ∷ plain 34359704825 34359704828 r ∷ plain 34359704828 34359705596 rw ∷ plain 34359705596 34359705597 rw ∷ filed 34359705597 34359705599 rw true 0 1 ∷ []))
    ∷ kernel_step 0 (Touch 268 Read) (Ok (Serves 267 269 rw false 0)) None
    ∷ kernel_step 0 (Touch 267 Write) (Ok (Serves 267 269 rw false 0)) None
    ∷ kernel_step 0 (Touch 267 Write) (Ok (Serves 267 269 rw false 0)) None
    ∷ kernel_step 0 (Touch 268 Write) (Ok (Serves 267 269 rw false 0)) None
    ∷ kernel_step 0 (Remap 1093632 8192 8192 3 1101824) (Err 12) (Some (plain 267 269 rw ∷ plain 34351314944 34351315968 rw ∷ plain 34351315968 34359704576 r ∷ plain 34359704825 34359704828 r ∷ plain 34359704828 34359705596 rw ∷ plain 34359705596 34359705597 rw ∷ filed 34359705597 34359705599 rw true 0 1 ∷ []))
    ∷ kernel_step 0 (Touch 267 Write) (Ok (Serves 267 269 rw false 0)) None
    ∷ kernel_step 0 (Protect 1093632 8192 rw) (Ok (Returned 0)) (Some (plain 267 269 rw ∷ plain 34351314944 34351315968 rw ∷ plain 34351315968 34359704576 r ∷ plain 34359704825 34359704828 r ∷ plain 34359704828 34359705596 rw ∷ plain 34359705596 34359705597 rw ∷ filed 34359705597 34359705599 rw true 0 1 ∷ []))
    ∷ kernel_step 0 (Protect 1101824 4096 r) (Err 12) (Some (plain 267 269 rw ∷ plain 34351314944 34351315968 rw ∷ plain 34351315968 34359704576 r ∷ plain 34359704825 34359704828 r ∷ plain 34359704828 34359705596 rw ∷ plain 34359705596 34359705597 rw ∷ filed 34359705597 34359705599 rw true 0 1 ∷ []))
    ∷ kernel_step 0 (Map 1048576 16384 r 306 (negsuc 0) 0) (Ok (Returned 1048576)) (Some (plain 256 260 r ∷ plain 267 269 rw ∷ plain 34351314944 34351315968 rw ∷ plain 34351315968 34359704576 r ∷ plain 34359704825 34359704828 r ∷ plain 34359704828 34359705596 rw ∷ plain 34359705596 34359705597 rw ∷ filed 34359705597 34359705599 rw true 0 1 ∷ []))
    ∷ kernel_step 0 (Touch 258 Write) (Ok (Signal AccErr)) None
    ∷ kernel_step 0 (Remap 1093632 8192 8192 3 1064960) (Err 12) (Some (plain 256 260 r ∷ plain 267 269 rw ∷ plain 34351314944 34351315968 rw ∷ plain 34351315968 34359704576 r ∷ plain 34359704825 34359704828 r ∷ plain 34359704828 34359705596 rw ∷ plain 34359705596 34359705597 rw ∷ filed 34359705597 34359705599 rw true 0 1 ∷ []))
    ∷ []

-- written_limit_47: the kernel
abbrev pub written_limit_47_on : Kernel
written_limit_47_on = record { rules = linux_6_16; machine = record { lowest_built = 16; memory = 245000; stack = 8388608; has_keys = true; huge_always = true; files_are_huge = false; vsyscall = Xonly }; config = config 4096 140737354133504 8 0 ([]) }

-- written_limit_47: its answers
abbrev pub written_limit_47 : List Step
written_limit_47 =
    kernel_step 0 (Map 1073152 16384 r 50 (negsuc 0) 0) (Ok (Returned 1073152)) (Some (plain 262 266 r ∷ []))
    ∷ kernel_step 0 (Map 1093632 16384 rw 50 (negsuc 0) 0) (Ok (Returned 1093632)) (Some (plain 262 266 r ∷ plain 267 271 rw ∷ []))
    ∷ kernel_step 0 (Map 1056768 16384 rw 50 (negsuc 0) 0) (Ok (Returned 1056768)) (Some (plain 258 262 rw ∷ plain 262 266 r ∷ plain 267 271 rw ∷ []))
    ∷ kernel_step 0 (Touch 259 Read) (Ok (Serves 258 262 rw false 0)) None
    ∷ kernel_step 0 (Map 1073152 16384 rw 50 (negsuc 0) 0) (Ok (Returned 1073152)) (Some (plain 258 266 rw ∷ plain 267 271 rw ∷ []))
    ∷ kernel_step 0 (Map 1052672 8192 rw 50 (negsuc 0) 0) (Ok (Returned 1052672)) (Some (plain 257 266 rw ∷ plain 267 271 rw ∷ []))
    ∷ kernel_step 0 (Unmap 1085440 16384) (Ok (Returned 0)) (Some (plain 257 265 rw ∷ plain 269 271 rw ∷ []))
    ∷ kernel_step 0 (Protect 1073152 16384 rw) (Err 12) (Some (plain 257 265 rw ∷ plain 269 271 rw ∷ []))
    ∷ kernel_step 0 (Protect 1101824 4096 rw) (Ok (Returned 0)) (Some (plain 257 265 rw ∷ plain 269 271 rw ∷ []))
    ∷ kernel_step 0 (Protect 1077248 16384 rw) (Err 12) (Some (plain 257 265 rw ∷ plain 269 271 rw ∷ []))
    ∷ kernel_step 0 (Touch 259 Write) (Ok (Serves 257 265 rw false 0)) None
    ∷ kernel_step 0 (Touch 258 Read) (Ok (Serves 257 265 rw false 0)) None
    ∷ kernel_step 0 (Touch 268 Write) (Ok (Signal MapErr)) None
    ∷ kernel_step 0 (Map 1069056 12288 rwx 50 (negsuc 0) 0) (Ok (Returned 1069056)) (Some (plain 257 261 rw ∷ plain 261 264 rwx ∷ plain 264 265 rw ∷ plain 269 271 rw ∷ []))
    ∷ kernel_step 0 (Touch 265 Write) (Ok (Signal MapErr)) None
    ∷ kernel_step 0 (Touch 259 Write) (Ok (Serves 257 261 rw false 0)) None
    ∷ kernel_step 0 (Remap 1089536 4096 4096 3 536870912) (Err 12) (Some (plain 257 261 rw ∷ plain 261 264 rwx ∷ plain 264 265 rw ∷ plain 269 271 rw ∷ []))
    ∷ kernel_step 0 (Map 1069056 16384 r 306 (negsuc 0) 0) (Ok (Returned 1069056)) (Some (plain 257 261 rw ∷ plain 261 265 r ∷ plain 269 271 rw ∷ []))
    ∷ kernel_step 0 (Protect 1081344 12288 rw) (Err 12) (Some (plain 257 261 rw ∷ plain 261 264 r ∷ plain 264 265 rw ∷ plain 269 271 rw ∷ []))
    ∷ kernel_step 0 (Map 1073152 12288 rwx 306 (negsuc 0) 0) (Ok (Returned 1073152)) (Some (plain 257 261 rw ∷ plain 261 262 r ∷ plain 262 265 rwx ∷ plain 269 271 rw ∷ []))
    ∷ kernel_step 0 (Touch 1 Write) (Ok (Signal MapErr)) None
    ∷ kernel_step 0 (Remap 1069056 4096 4096 3 1572864) (Err 12) (Some (plain 257 261 rw ∷ plain 261 262 r ∷ plain 262 265 rwx ∷ plain 269 271 rw ∷ []))
    ∷ kernel_step 0 (Protect 1089536 12288 rw) (Err 12) (Some (plain 257 261 rw ∷ plain 261 262 r ∷ plain 262 265 rwx ∷ plain 269 271 rw ∷ []))
    ∷ kernel_step 0 (Protect 1081344 16384 rwx) (Err 12) (Some (plain 257 261 rw ∷ plain 261 262 r ∷ plain 262 265 rwx ∷ plain 269 271 rw ∷ []))
    ∷ kernel_step 0 (Map 1089536 8192 rw 50 (negsuc 0) 0) (Ok (Returned 1089536)) (Some (plain 257 261 rw ∷ plain 261 262 r ∷ plain 262 265 rwx ∷ plain 266 268 rw ∷ plain 269 271 rw ∷ []))
    ∷ kernel_step 0 (Map 1085440 8192 r 306 (negsuc 0) 0) (Ok (Returned 1085440)) (Some (plain 257 261 rw ∷ plain 261 262 r ∷ plain 262 265 rwx ∷ plain 265 267 r ∷ plain 267 268 rw ∷ plain 269 271 rw ∷ []))
    ∷ kernel_step 0 (Map 1052672 4096 rwx 306 (negsuc 0) 0) (Ok (Returned 1052672)) (Some (plain 257 258 rwx ∷ plain 258 261 rw ∷ plain 261 262 r ∷ plain 262 265 rwx ∷ plain 265 267 r ∷ plain 267 268 rw ∷ plain 269 271 rw ∷ []))
    ∷ kernel_step 0 (Map 1085440 4096 rw 306 (negsuc 0) 0) (Ok (Returned 1085440)) (Some (plain 257 258 rwx ∷ plain 258 261 rw ∷ plain 261 262 r ∷ plain 262 265 rwx ∷ plain 265 266 rw ∷ plain 266 267 r ∷ plain 267 268 rw ∷ plain 269 271 rw ∷ []))
    ∷ kernel_step 0 (Touch 264 Write) (Ok (Serves 262 265 rwx false 0)) None
    ∷ kernel_step 0 (Protect 1093632 4096 rw) (Ok (Returned 0)) (Some (plain 257 258 rwx ∷ plain 258 261 rw ∷ plain 261 262 r ∷ plain 262 265 rwx ∷ plain 265 266 rw ∷ plain 266 267 r ∷ plain 267 268 rw ∷ plain 269 271 rw ∷ []))
    ∷ []

-- written_49: the kernel
abbrev pub written_49_on : Kernel
written_49_on = record { rules = linux_6_16; machine = record { lowest_built = 16; memory = 245000; stack = 8388608; has_keys = true; huge_always = true; files_are_huge = false; vsyscall = Xonly }; config = config 4096 140737354133504 65530 1064960 ([]) }

-- written_49: its answers
abbrev pub written_49 : List Step
written_49 =
    kernel_step 0 (Map 1064960 12288 rw 32818 (negsuc 0) 0) (Ok (Returned 1064960)) (Some (plain 260 263 rw ∷ []))
    ∷ kernel_step 0 (Map 1077248 8192 rw 131122 (negsuc 0) 0) (Ok (Returned 1077248)) (Some (plain 260 263 rw ∷ plain 263 265 rw ∷ []))
    ∷ kernel_step 0 (Touch 260 Read) (Ok (Serves 260 263 rw false 0)) None
    ∷ kernel_step 0 (Unmap 1056768 16384) (Ok (Returned 0)) (Some (plain 262 263 rw ∷ plain 263 265 rw ∷ []))
    ∷ kernel_step 0 (Unmap 1056768 8192) (Ok (Returned 0)) (Some (plain 262 263 rw ∷ plain 263 265 rw ∷ []))
    ∷ kernel_step 0 (Break 1064960) (Ok (Returned 1064960)) (Some (plain 262 263 rw ∷ plain 263 265 rw ∷ []))
    ∷ kernel_step 0 (Touch 262 Write) (Ok (Serves 262 263 rw false 0)) None
    ∷ kernel_step 0 (Unmap 1077248 12288) (Ok (Returned 0)) (Some (plain 262 263 rw ∷ []))
    ∷ kernel_step 0 (Touch 262 Write) (Ok (Serves 262 263 rw false 0)) None
    ∷ kernel_step 0 (Map 1077248 16384 rw 50 (negsuc 0) 0) (Ok (Returned 1077248)) (Some (plain 262 267 rw ∷ []))
    ∷ kernel_step 0 (Map 1060864 4096 rw 50 (negsuc 0) 0) (Ok (Returned 1060864)) (Some (plain 259 260 rw ∷ plain 262 267 rw ∷ []))
    ∷ kernel_step 0 (Map 1048576 16384 rw 50 (negsuc 0) 0) (Ok (Returned 1048576)) (Some (plain 256 260 rw ∷ plain 262 267 rw ∷ []))
    ∷ kernel_step 0 (Map 1073152 4096 rw 50 (negsuc 0) 0) (Ok (Returned 1073152)) (Some (plain 256 260 rw ∷ plain 262 267 rw ∷ []))
    ∷ kernel_step 0 (Map 1060864 8192 rw 50 (negsuc 0) 0) (Ok (Returned 1060864)) (Some (heap 256 261 rw ∷ plain 262 267 rw ∷ []))
    ∷ kernel_step 0 (Fork 1) (Ok (Returned 0)) None
    ∷ kernel_step 0 (Touch 264 Exec) (Ok (Signal AccErr)) None
    ∷ kernel_step 1 (Remap 1064960 4096 4096 7 1638400) (Ok (Returned 1638400)) (Some (heap 256 261 rw ∷ plain 262 267 rw ∷ plain 400 401 rw ∷ []))
    ∷ kernel_step 1 (Touch 260 Write) (Ok (Serves 256 261 rw false 0)) None
    ∷ kernel_step 0 (Break 1073152) (Ok (Returned 1064960)) (Some (heap 256 261 rw ∷ plain 262 267 rw ∷ []))
    ∷ kernel_step 0 (Touch 259 Write) (Ok (Serves 256 261 rw false 0)) None
    ∷ kernel_step 1 (Protect 1064960 16384 rw) (Err 12) (Some (heap 256 261 rw ∷ plain 262 267 rw ∷ plain 400 401 rw ∷ []))
    ∷ kernel_step 1 (Remap 1048576 20480 20480 3 1638400) (Ok (Returned 1638400)) (Some (plain 262 267 rw ∷ plain 400 405 rw ∷ []))
    ∷ kernel_step 1 (Break 1060864) (Ok (Returned 1064960)) (Some (plain 262 267 rw ∷ plain 400 405 rw ∷ []))
    ∷ kernel_step 1 (Remap 1650688 8192 8192 3 1060864) (Ok (Returned 1060864)) (Some (heap 259 261 rw ∷ plain 262 267 rw ∷ plain 400 403 rw ∷ []))
    ∷ kernel_step 0 (Remap 1056768 0 16384 0 0) (Err 22) (Some (heap 256 261 rw ∷ plain 262 267 rw ∷ []))
    ∷ kernel_step 1 (Break 1064960) (Ok (Returned 1064960)) (Some (heap 259 261 rw ∷ plain 262 267 rw ∷ plain 400 403 rw ∷ []))
    ∷ kernel_step 0 (Break 1069056) (Ok (Returned 1064960)) (Some (heap 256 261 rw ∷ plain 262 267 rw ∷ []))
    ∷ kernel_step 1 (Remap 1048576 12288 20480 1 0) (Err 14) (Some (heap 259 261 rw ∷ plain 262 267 rw ∷ plain 400 403 rw ∷ []))
    ∷ kernel_step 0 (Protect 1077248 4096 rw) (Ok (Returned 0)) (Some (heap 256 261 rw ∷ plain 262 267 rw ∷ []))
    ∷ kernel_step 1 (Protect 1056768 12288 rw) (Err 12) (Some (heap 259 261 rw ∷ plain 262 267 rw ∷ plain 400 403 rw ∷ []))
    ∷ []

-- hard_limit_53: the kernel
abbrev pub hard_limit_53_on : Kernel
hard_limit_53_on = record { rules = linux_6_16; machine = record { lowest_built = 16; memory = 245000; stack = 8388608; has_keys = true; huge_always = true; files_are_huge = false; vsyscall = Xonly }; config = config 4096 140737354133504 12 1048576 ([]) }

-- hard_limit_53: its answers
abbrev pub hard_limit_53 : List Step
hard_limit_53 =
    kernel_step 0 (Map 0 8192 r 34 (negsuc 0) 0) (Ok (Returned 140737354125312)) (Some (plain 34359705597 34359705599 r ∷ []))
    ∷ kernel_step 0 (Map 1073152 16384 rw 50 (negsuc 0) 0) (Ok (Returned 1073152)) (Some (plain 262 266 rw ∷ plain 34359705597 34359705599 r ∷ []))
    ∷ kernel_step 0 (Touch 263 Read) (Ok (Serves 262 266 rw false 0)) None
    ∷ kernel_step 0 (Touch 264 Write) (Ok (Serves 262 266 rw false 0)) None
    ∷ kernel_step 0 (Map 140737354133504 12288 rw 32818 (negsuc 0) 0) (Ok (Returned 140737354133504)) (Some (plain 262 266 rw ∷ plain 34359705597 34359705599 r ∷ plain 34359705599 34359705602 rw ∷ []))
    ∷ kernel_step 0 (Remap 1073152 16384 24576 3 1048576) (Ok (Returned 1048576)) (Some (plain 256 262 rw ∷ plain 34359705597 34359705599 r ∷ plain 34359705599 34359705602 rw ∷ []))
    ∷ kernel_step 0 (Fork 1) (Ok (Returned 0)) None
    ∷ kernel_step 1 (Map 1101824 16384 rw 1048610 (negsuc 0) 0) (Ok (Returned 1101824)) (Some (plain 256 262 rw ∷ plain 269 273 rw ∷ plain 34359705597 34359705599 r ∷ plain 34359705599 34359705602 rw ∷ []))
    ∷ kernel_step 1 (Break 1060856) (Ok (Returned 1048576)) (Some (plain 256 262 rw ∷ plain 269 273 rw ∷ plain 34359705597 34359705599 r ∷ plain 34359705599 34359705602 rw ∷ []))
    ∷ kernel_step 1 (Touch 264 Write) (Ok (Signal MapErr)) None
    ∷ kernel_step 0 (Protect 1110016 8192 rw) (Err 12) (Some (plain 256 262 rw ∷ plain 34359705597 34359705599 r ∷ plain 34359705599 34359705602 rw ∷ []))
    ∷ kernel_step 1 (Remap 1101824 16384 20480 0 0) (Ok (Returned 1101824)) (Some (plain 256 262 rw ∷ plain 269 274 rw ∷ plain 34359705597 34359705599 r ∷ plain 34359705599 34359705602 rw ∷ []))
    ∷ kernel_step 0 (Touch 257 Write) (Ok (Serves 256 262 rw false 0)) None
    ∷ kernel_step 1 (Remap 1101824 4096 8192 0 0) (Err 12) (Some (plain 256 262 rw ∷ plain 269 274 rw ∷ plain 34359705597 34359705599 r ∷ plain 34359705599 34359705602 rw ∷ []))
    ∷ kernel_step 0 (Map 1085440 16384 r 34 (negsuc 0) 0) (Ok (Returned 1085440)) (Some (plain 256 262 rw ∷ plain 265 269 r ∷ plain 34359705597 34359705599 r ∷ plain 34359705599 34359705602 rw ∷ []))
    ∷ kernel_step 1 (Touch 262 Exec) (Ok (Signal MapErr)) None
    ∷ kernel_step 0 (Protect 1093632 8192 rw) (Ok (Returned 0)) (Some (plain 256 262 rw ∷ plain 265 267 r ∷ plain 267 269 rw ∷ plain 34359705597 34359705599 r ∷ plain 34359705599 34359705602 rw ∷ []))
    ∷ kernel_step 1 (Map 1097728 12288 rw 49 (negsuc 0) 0) (Ok (Returned 1097728)) (Some (plain 256 262 rw ∷ filed 268 271 rw true 0 1 ∷ plain 271 274 rw ∷ plain 34359705597 34359705599 r ∷ plain 34359705599 34359705602 rw ∷ []))
    ∷ kernel_step 0 (Protect 1085440 4096 w) (Ok (Returned 0)) (Some (plain 256 262 rw ∷ plain 265 266 w ∷ plain 266 267 r ∷ plain 267 269 rw ∷ plain 34359705597 34359705599 r ∷ plain 34359705599 34359705602 rw ∷ []))
    ∷ kernel_step 0 (Break 1064960) (Ok (Returned 1048576)) (Some (plain 256 262 rw ∷ plain 265 266 w ∷ plain 266 267 r ∷ plain 267 269 rw ∷ plain 34359705597 34359705599 r ∷ plain 34359705599 34359705602 rw ∷ []))
    ∷ kernel_step 0 (Break 1040392) (Ok (Returned 1048576)) (Some (plain 256 262 rw ∷ plain 265 266 w ∷ plain 266 267 r ∷ plain 267 269 rw ∷ plain 34359705597 34359705599 r ∷ plain 34359705599 34359705602 rw ∷ []))
    ∷ kernel_step 0 (Unmap 1085440 20480) (Ok (Returned 0)) (Some (plain 256 262 rw ∷ plain 34359705597 34359705599 r ∷ plain 34359705599 34359705602 rw ∷ []))
    ∷ kernel_step 0 (Touch 260 Write) (Ok (Serves 256 262 rw false 0)) None
    ∷ kernel_step 1 (Break 1036288) (Ok (Returned 1048576)) (Some (plain 256 262 rw ∷ filed 268 271 rw true 0 1 ∷ plain 271 274 rw ∷ plain 34359705597 34359705599 r ∷ plain 34359705599 34359705602 rw ∷ []))
    ∷ kernel_step 0 (Protect 1064960 8192 rx) (Ok (Returned 0)) (Some (plain 256 260 rw ∷ plain 260 262 rx ∷ plain 34359705597 34359705599 r ∷ plain 34359705599 34359705602 rw ∷ []))
    ∷ kernel_step 1 (Map 1032192 16384 none 50 (negsuc 0) 0) (Ok (Returned 1032192)) (Some (plain 252 256 none ∷ plain 256 262 rw ∷ filed 268 271 rw true 0 1 ∷ plain 271 274 rw ∷ plain 34359705597 34359705599 r ∷ plain 34359705599 34359705602 rw ∷ []))
    ∷ kernel_step 1 (Map 1048576 4096 r 50 (negsuc 0) 0) (Ok (Returned 1048576)) (Some (plain 252 256 none ∷ plain 256 257 r ∷ plain 257 262 rw ∷ filed 268 271 rw true 0 1 ∷ plain 271 274 rw ∷ plain 34359705597 34359705599 r ∷ plain 34359705599 34359705602 rw ∷ []))
    ∷ kernel_step 1 (Remap 1097728 4096 8192 3 1040384) (Err 12) (Some (plain 252 256 none ∷ plain 256 257 r ∷ plain 257 262 rw ∷ filed 268 271 rw true 0 1 ∷ plain 271 274 rw ∷ plain 34359705597 34359705599 r ∷ plain 34359705599 34359705602 rw ∷ []))
    ∷ kernel_step 0 (Touch 260 Write) (Ok (Signal AccErr)) (Some (plain 256 260 rw ∷ plain 260 262 rx ∷ plain 34359705597 34359705599 r ∷ plain 34359705599 34359705602 rw ∷ []))
    ∷ kernel_step 1 (Remap 1040384 0 8192 3 1052672) (Err 12) (Some (plain 252 256 none ∷ plain 256 257 r ∷ plain 257 262 rw ∷ filed 268 271 rw true 0 1 ∷ plain 271 274 rw ∷ plain 34359705597 34359705599 r ∷ plain 34359705599 34359705602 rw ∷ []))
    ∷ []

-- written_65: the kernel
abbrev pub written_65_on : Kernel
written_65_on = record { rules = linux_6_16; machine = record { lowest_built = 16; memory = 245000; stack = 8388608; has_keys = true; huge_always = true; files_are_huge = false; vsyscall = Xonly }; config = config 4096 140737354133504 65530 0 (file_row 3 true false 0 ∷ file_row 4 true true 20000 ∷ file_row 5 true true 90000 ∷ []) }

-- written_65: its answers
abbrev pub written_65 : List Step
written_65 =
    kernel_step 0 (Map 1069056 8192 r 50 (negsuc 0) 0) (Ok (Returned 1069056)) (Some (plain 261 263 r ∷ []))
    ∷ kernel_step 0 (Map 1060864 4096 rw 50 (negsuc 0) 0) (Ok (Returned 1060864)) (Some (plain 259 260 rw ∷ plain 261 263 r ∷ []))
    ∷ kernel_step 0 (Touch 262 Write) (Ok (Signal AccErr)) None
    ∷ kernel_step 0 (Map 1073152 16384 r 50 (negsuc 0) 0) (Ok (Returned 1073152)) (Some (plain 259 260 rw ∷ plain 261 266 r ∷ []))
    ∷ kernel_step 0 (Map 1077248 4096 rw 50 (negsuc 0) 0) (Ok (Returned 1077248)) (Some (plain 259 260 rw ∷ plain 261 263 r ∷ plain 263 264 rw ∷ plain 264 266 r ∷ []))
    ∷ kernel_step 0 (Protect 1069056 8192 rwx) (Ok (Returned 0)) (Some (plain 259 260 rw ∷ plain 261 263 rwx ∷ plain 263 264 rw ∷ plain 264 266 r ∷ []))
    ∷ kernel_step 0 (Touch 261 Write) (Ok (Serves 261 263 rwx false 0)) None
    ∷ kernel_step 0 (Touch 263 Read) (Ok (Serves 263 264 rw false 0)) None
    ∷ kernel_step 0 (Map 1069056 8192 rwx 50 (negsuc 0) 0) (Ok (Returned 1069056)) (Some (plain 259 260 rw ∷ plain 261 263 rwx ∷ plain 263 264 rw ∷ plain 264 266 r ∷ []))
    ∷ kernel_step 0 (Touch 265 Write) (Ok (Signal AccErr)) None
    ∷ kernel_step 0 (Protect 1077248 8192 r) (Ok (Returned 0)) (Some (plain 259 260 rw ∷ plain 261 263 rwx ∷ plain 263 266 r ∷ []))
    ∷ kernel_step 0 (Touch 261 Write) (Ok (Serves 261 263 rwx false 0)) None
    ∷ kernel_step 0 (Map 1048576 8192 r 50 (negsuc 0) 0) (Ok (Returned 1048576)) (Some (plain 256 258 r ∷ plain 259 260 rw ∷ plain 261 263 rwx ∷ plain 263 266 r ∷ []))
    ∷ kernel_step 0 (Remap 1048576 4096 4096 3 1605632) (Ok (Returned 1605632)) (Some (plain 257 258 r ∷ plain 259 260 rw ∷ plain 261 263 rwx ∷ plain 263 266 r ∷ plain 392 393 r ∷ []))
    ∷ kernel_step 0 (Map 1056768 12288 r 50 (negsuc 0) 0) (Ok (Returned 1056768)) (Some (plain 257 261 r ∷ plain 261 263 rwx ∷ plain 263 266 r ∷ plain 392 393 r ∷ []))
    ∷ kernel_step 0 (Protect 1048576 12288 r) (Err 12) (Some (plain 257 261 r ∷ plain 261 263 rwx ∷ plain 263 266 r ∷ plain 392 393 r ∷ []))
    ∷ kernel_step 0 (Map 1073152 4096 rwx 50 (negsuc 0) 0) (Ok (Returned 1073152)) (Some (plain 257 261 r ∷ plain 261 263 rwx ∷ plain 263 266 r ∷ plain 392 393 r ∷ []))
    ∷ kernel_step 0 (Fork 1) (Ok (Returned 0)) None
    ∷ kernel_step 0 (Remap 1605632 4096 4096 3 1048576) (Ok (Returned 1048576)) (Some (plain 256 261 r ∷ plain 261 263 rwx ∷ plain 263 266 r ∷ []))
    ∷ kernel_step 0 (Touch 262 Write) (Ok (Serves 261 263 rwx false 0)) None
    ∷ kernel_step 0 (Protect 1069056 4096 rwx) (Ok (Returned 0)) (Some (plain 256 261 r ∷ plain 261 263 rwx ∷ plain 263 266 r ∷ []))
    ∷ kernel_step 1 (Protect 1052672 12288 r) (Ok (Returned 0)) (Some (plain 257 261 r ∷ plain 261 263 rwx ∷ plain 263 266 r ∷ plain 392 393 r ∷ []))
    ∷ kernel_step 0 (Touch 256 Write) (Ok (Signal AccErr)) None
    ∷ kernel_step 0 (Map 1048576 16384 rw 50 (negsuc 0) 0) (Ok (Returned 1048576)) (Some (plain 256 260 rw ∷ plain 260 261 r ∷ plain 261 263 rwx ∷ plain 263 266 r ∷ []))
    ∷ kernel_step 1 (Map 1069056 16384 rw 50 (negsuc 0) 0) (Ok (Returned 1069056)) (Some (plain 257 261 r ∷ plain 261 265 rw ∷ plain 265 266 r ∷ plain 392 393 r ∷ []))
    ∷ kernel_step 0 (Map 1073152 16384 rwx 50 (negsuc 0) 0) (Ok (Returned 1073152)) (Some (plain 256 260 rw ∷ plain 260 261 r ∷ plain 261 266 rwx ∷ []))
    ∷ kernel_step 1 (Touch 392 Read) (Ok (Serves 392 393 r false 0)) None
    ∷ kernel_step 1 (Protect 1085440 4096 rw) (Ok (Returned 0)) (Some (plain 257 261 r ∷ plain 261 266 rw ∷ plain 392 393 r ∷ []))
    ∷ kernel_step 0 (Map 1052672 12288 rw 50 (negsuc 0) 0) (Ok (Returned 1052672)) (Some (plain 256 260 rw ∷ plain 260 261 r ∷ plain 261 266 rwx ∷ []))
    ∷ kernel_step 0 (Protect 1060864 16384 rwx) (Ok (Returned 0)) (Some (plain 256 259 rw ∷ plain 259 266 rwx ∷ []))
    ∷ []

-- hard_limit_69: the kernel
abbrev pub hard_limit_69_on : Kernel
hard_limit_69_on = record { rules = linux_6_16; machine = record { lowest_built = 16; memory = 245000; stack = 8388608; has_keys = true; huge_always = true; files_are_huge = false; vsyscall = Xonly }; config = config 4096 140737354133504 4 1069056 ([]) }

-- hard_limit_69: its answers
abbrev pub hard_limit_69 : List Step
hard_limit_69 =
    kernel_step 0 (Map 1064960 16384 rw 50 (negsuc 0) 0) (Ok (Returned 1064960)) (Some (heap 260 264 rw ∷ []))
    ∷ kernel_step 0 (Map 1077248 12288 rw 34 (negsuc 0) 0) (Ok (Returned 140737354121216)) (Some (heap 260 264 rw ∷ plain 34359705596 34359705599 rw ∷ []))
    ∷ kernel_step 0 (Touch 262 Write) (Ok (Serves 260 264 rw false 0)) None
    ∷ kernel_step 0 (Break 1073152) (Ok (Returned 1069056)) (Some (heap 260 264 rw ∷ plain 34359705596 34359705599 rw ∷ []))
    ∷ kernel_step 0 (Protect 1064960 16384 rw) (Ok (Returned 0)) (Some (heap 260 264 rw ∷ plain 34359705596 34359705599 rw ∷ []))
    ∷ kernel_step 0 (Break 1081344) (Ok (Returned 1069056)) (Some (heap 260 264 rw ∷ plain 34359705596 34359705599 rw ∷ []))
    ∷ kernel_step 0 (Remap 1064960 12288 4096 1 0) (Ok (Returned 1064960)) (Some (plain 260 261 rw ∷ plain 263 264 rw ∷ plain 34359705596 34359705599 rw ∷ []))
    ∷ kernel_step 0 (Protect 1077248 4096 rw) (Ok (Returned 0)) (Some (plain 260 261 rw ∷ plain 263 264 rw ∷ plain 34359705596 34359705599 rw ∷ []))
    ∷ kernel_step 0 (Unmap 1077248 4096) (Ok (Returned 0)) (Some (plain 260 261 rw ∷ plain 34359705596 34359705599 rw ∷ []))
    ∷ kernel_step 0 (Map 140737354133504 8192 r 305 (negsuc 0) 0) (Err 22) (Some (plain 260 261 rw ∷ plain 34359705596 34359705599 rw ∷ []))
    ∷ kernel_step 0 (Protect 1064960 4096 r) (Ok (Returned 0)) (Some (plain 260 261 r ∷ plain 34359705596 34359705599 rw ∷ []))
    ∷ kernel_step 0 (Break 1085432) (Ok (Returned 1085432)) (Some (plain 260 261 r ∷ heap 261 265 rw ∷ plain 34359705596 34359705599 rw ∷ []))
    ∷ kernel_step 0 (Map 1069056 4096 rw 50 (negsuc 0) 0) (Ok (Returned 1069056)) (Some (plain 260 261 r ∷ heap 261 265 rw ∷ plain 34359705596 34359705599 rw ∷ []))
    ∷ kernel_step 0 (Touch 260 Write) (Ok (Signal AccErr)) None
    ∷ kernel_step 0 (Break 1097728) (Ok (Returned 1097728)) (Some (plain 260 261 r ∷ heap 261 268 rw ∷ plain 34359705596 34359705599 rw ∷ []))
    ∷ kernel_step 0 (Unmap 1064960 32768) (Ok (Returned 0)) (Some (plain 34359705596 34359705599 rw ∷ []))
    ∷ kernel_step 0 (Protect 140737354129408 16384 rw) (Err 12) (Some (plain 34359705596 34359705599 rw ∷ []))
    ∷ kernel_step 0 (Break 1085432) (Ok (Returned 1097728)) (Some (plain 34359705596 34359705599 rw ∷ []))
    ∷ kernel_step 0 (Protect 140737354121216 12288 r) (Ok (Returned 0)) (Some (plain 34359705596 34359705599 r ∷ []))
    ∷ kernel_step 0 (Touch 34359705598 Exec) (Ok (Signal AccErr)) None
    ∷ kernel_step 0 (Protect 140737354121216 12288 rw) (Ok (Returned 0)) (Some (plain 34359705596 34359705599 rw ∷ []))
    ∷ kernel_step 0 (Touch 275 Write) (Ok (Signal MapErr)) None
    ∷ kernel_step 0 (Touch 34359705596 Write) (Ok (Serves 34359705596 34359705599 rw false 0)) None
    ∷ kernel_step 0 (Map 1105920 12288 rw 50 (negsuc 0) 0) (Ok (Returned 1105920)) (Some (plain 270 273 rw ∷ plain 34359705596 34359705599 rw ∷ []))
    ∷ kernel_step 0 (Break 1097736) (Ok (Returned 1097736)) (Some (heap 268 269 rw ∷ plain 270 273 rw ∷ plain 34359705596 34359705599 rw ∷ []))
    ∷ kernel_step 0 (Touch 272 Read) (Ok (Serves 270 273 rw false 0)) None
    ∷ kernel_step 0 (Break 1105928) (Ok (Returned 1097736)) (Some (heap 268 269 rw ∷ plain 270 273 rw ∷ plain 34359705596 34359705599 rw ∷ []))
    ∷ kernel_step 0 (Protect 1097728 4096 r) (Ok (Returned 0)) (Some (heap 268 269 r ∷ plain 270 273 rw ∷ plain 34359705596 34359705599 rw ∷ []))
    ∷ kernel_step 0 (Break 1101840) (Ok (Returned 1097736)) (Some (heap 268 269 r ∷ plain 270 273 rw ∷ plain 34359705596 34359705599 rw ∷ []))
    ∷ kernel_step 0 (Touch 271 Read) (Ok (Serves 270 273 rw false 0)) (Some (heap 268 269 r ∷ plain 270 273 rw ∷ plain 34359705596 34359705599 rw ∷ []))
    ∷ []

-- hard_88: the kernel
abbrev pub hard_88_on : Kernel
hard_88_on = record { rules = linux_6_16; machine = record { lowest_built = 16; memory = 245000; stack = 8388608; has_keys = true; huge_always = true; files_are_huge = false; vsyscall = Xonly }; config = config 4096 140737354133504 65530 0 (file_row 3 false true 5000 ∷ []) }

-- hard_88: its answers
abbrev pub hard_88 : List Step
hard_88 =
    kernel_step 0 (Map 1110016 16384 rw 50 (negsuc 0) 0) (Ok (Returned 1110016)) (Some (plain 271 275 rw ∷ []))
    ∷ kernel_step 0 (Map 1081344 12288 rw 17 (pos 3) 0) (Err 13) (Some (plain 271 275 rw ∷ []))
    ∷ kernel_step 0 (Remap 1110016 16384 16384 7 1126400) (Ok (Returned 1126400)) (Some (plain 271 279 rw ∷ []))
    ∷ kernel_step 0 (Protect 1126400 4096 rw) (Ok (Returned 0)) (Some (plain 271 279 rw ∷ []))
    ∷ kernel_step 0 (Touch 274 Write) (Ok (Serves 271 279 rw false 0)) None
    ∷ kernel_step 0 (Touch 275 Write) (Ok (Serves 271 279 rw false 0)) None
    ∷ kernel_step 0 (Map 1052672 8192 r 49 (negsuc 0) 0) (Ok (Returned 1052672)) (Some (filed 257 259 r true 0 2 ∷ plain 271 279 rw ∷ []))
    ∷ kernel_step 0 (Unmap 1126400 4096) (Ok (Returned 0)) (Some (filed 257 259 r true 0 2 ∷ plain 271 275 rw ∷ plain 276 279 rw ∷ []))
    ∷ kernel_step 0 (Seal 1110016 16384 0) (Ok (Returned 0)) (Some (filed 257 259 r true 0 2 ∷ plain 271 275 rw ∷ plain 276 279 rw ∷ []))
    ∷ kernel_step 0 (Map 0 16384 r 34 (negsuc 0) 0) (Ok (Returned 140737354117120)) (Some (filed 257 259 r true 0 2 ∷ plain 271 275 rw ∷ plain 276 279 rw ∷ plain 34359705595 34359705599 r ∷ []))
    ∷ kernel_step 0 (Unmap 1130496 4096) (Ok (Returned 0)) (Some (filed 257 259 r true 0 2 ∷ plain 271 275 rw ∷ plain 277 279 rw ∷ plain 34359705595 34359705599 r ∷ []))
    ∷ kernel_step 0 (Map 140737354100736 16384 rw 50 (negsuc 0) 0) (Ok (Returned 140737354100736)) (Some (filed 257 259 r true 0 2 ∷ plain 271 275 rw ∷ plain 277 279 rw ∷ plain 34359705591 34359705595 rw ∷ plain 34359705595 34359705599 r ∷ []))
    ∷ kernel_step 0 (Remap 1052672 8192 12288 0 0) (Ok (Returned 1052672)) (Some (filed 257 260 r true 0 2 ∷ plain 271 275 rw ∷ plain 277 279 rw ∷ plain 34359705591 34359705595 rw ∷ plain 34359705595 34359705599 r ∷ []))
    ∷ kernel_step 0 (Remap 1110016 16384 20480 0 0) (Err 1) (Some (filed 257 260 r true 0 2 ∷ plain 271 275 rw ∷ plain 277 279 rw ∷ plain 34359705591 34359705595 rw ∷ plain 34359705595 34359705599 r ∷ []))
    ∷ kernel_step 0 (Touch 257 Read) (Ok (Serves 257 260 r true 0)) None
    ∷ kernel_step 0 (Remap 1064960 8192 20480 1 0) (Err 14) (Some (filed 257 260 r true 0 2 ∷ plain 271 275 rw ∷ plain 277 279 rw ∷ plain 34359705591 34359705595 rw ∷ plain 34359705595 34359705599 r ∷ []))
    ∷ kernel_step 0 (Unmap 1052672 12288) (Ok (Returned 0)) (Some (plain 271 275 rw ∷ plain 277 279 rw ∷ plain 34359705591 34359705595 rw ∷ plain 34359705595 34359705599 r ∷ []))
    ∷ kernel_step 0 (Seal 1134592 8192 0) (Ok (Returned 0)) (Some (plain 271 275 rw ∷ plain 277 279 rw ∷ plain 34359705591 34359705595 rw ∷ plain 34359705595 34359705599 r ∷ []))
    ∷ kernel_step 0 (Touch 277 Write) (Ok (Serves 277 279 rw false 0)) None
    ∷ kernel_step 0 (Touch 270 Write) (Ok (Signal MapErr)) None
    ∷ kernel_step 0 (Seal 1138688 20480 0) (Err 12) (Some (plain 271 275 rw ∷ plain 277 279 rw ∷ plain 34359705591 34359705595 rw ∷ plain 34359705595 34359705599 r ∷ []))
    ∷ kernel_step 0 (Map 1052672 8192 r 1048609 (negsuc 0) 0) (Ok (Returned 1052672)) (Some (filed 257 259 r true 0 3 ∷ plain 271 275 rw ∷ plain 277 279 rw ∷ plain 34359705591 34359705595 rw ∷ plain 34359705595 34359705599 r ∷ []))
    ∷ kernel_step 0 (Protect 1110016 20480 rw) (Err 1) (Some (filed 257 259 r true 0 3 ∷ plain 271 275 rw ∷ plain 277 279 rw ∷ plain 34359705591 34359705595 rw ∷ plain 34359705595 34359705599 r ∷ []))
    ∷ kernel_step 0 (Remap 1052672 8192 12288 1 0) (Ok (Returned 1052672)) (Some (filed 257 260 r true 0 3 ∷ plain 271 275 rw ∷ plain 277 279 rw ∷ plain 34359705591 34359705595 rw ∷ plain 34359705595 34359705599 r ∷ []))
    ∷ kernel_step 0 (Map 0 12288 r 34 (negsuc 0) 0) (Ok (Returned 140737354088448)) (Some (filed 257 260 r true 0 3 ∷ plain 271 275 rw ∷ plain 277 279 rw ∷ plain 34359705588 34359705591 r ∷ plain 34359705591 34359705595 rw ∷ plain 34359705595 34359705599 r ∷ []))
    ∷ kernel_step 0 (Protect 1064960 12288 r) (Err 12) (Some (filed 257 260 r true 0 3 ∷ plain 271 275 rw ∷ plain 277 279 rw ∷ plain 34359705588 34359705591 r ∷ plain 34359705591 34359705595 rw ∷ plain 34359705595 34359705599 r ∷ []))
    ∷ kernel_step 0 (Remap 1134592 8192 8192 7 1118208) (Err 1) (Some (filed 257 260 r true 0 3 ∷ plain 271 275 rw ∷ plain 277 279 rw ∷ plain 34359705588 34359705591 r ∷ plain 34359705591 34359705595 rw ∷ plain 34359705595 34359705599 r ∷ []))
    ∷ kernel_step 0 (Unmap 1134592 8192) (Err 1) (Some (filed 257 260 r true 0 3 ∷ plain 271 275 rw ∷ plain 277 279 rw ∷ plain 34359705588 34359705591 r ∷ plain 34359705591 34359705595 rw ∷ plain 34359705595 34359705599 r ∷ []))
    ∷ kernel_step 0 (Map 1064960 4096 rw 50 (negsuc 0) 0) (Ok (Returned 1064960)) (Some (filed 257 260 r true 0 3 ∷ plain 260 261 rw ∷ plain 271 275 rw ∷ plain 277 279 rw ∷ plain 34359705588 34359705591 r ∷ plain 34359705591 34359705595 rw ∷ plain 34359705595 34359705599 r ∷ []))
    ∷ kernel_step 0 (Touch 278 Read) (Ok (Serves 277 279 rw false 0)) (Some (filed 257 260 r true 0 3 ∷ plain 260 261 rw ∷ plain 271 275 rw ∷ plain 277 279 rw ∷ plain 34359705588 34359705591 r ∷ plain 34359705591 34359705595 rw ∷ plain 34359705595 34359705599 r ∷ []))
    ∷ []

-- hard_120: the kernel
abbrev pub hard_120_on : Kernel
hard_120_on = record { rules = linux_6_16; machine = record { lowest_built = 16; memory = 245000; stack = 8388608; has_keys = true; huge_always = true; files_are_huge = false; vsyscall = Xonly }; config = config 4096 140737354133504 65530 0 ([]) }

-- hard_120: its answers
abbrev pub hard_120 : List Step
hard_120 =
    kernel_step 0 (Map 0 3145728 x 34 (negsuc 0) 0) (Ok (Returned 140737350987776)) (Some (plain 34359704831 34359705599 x ∷ []))
    ∷ kernel_step 0 (Map 0 12288 rw 34 (negsuc 0) 0) (Ok (Returned 140737350975488)) (Some (plain 34359704828 34359704831 rw ∷ plain 34359704831 34359705599 x ∷ []))
    ∷ kernel_step 0 (Map 140737354133504 4096 rw 50 (negsuc 0) 0) (Ok (Returned 140737354133504)) (Some (plain 34359704828 34359704831 rw ∷ plain 34359704831 34359705599 x ∷ plain 34359705599 34359705600 rw ∷ []))
    ∷ kernel_step 0 (Touch 34359705599 Write) (Ok (Serves 34359705599 34359705600 rw false 0)) None
    ∷ kernel_step 0 (Remap 140737350975488 28672 28672 3 1101824) (Err 14) (Some (plain 34359704828 34359704831 rw ∷ plain 34359704831 34359705599 x ∷ plain 34359705599 34359705600 rw ∷ []))
    ∷ kernel_step 0 (Remap 1101824 8192 8192 7 1114112) (Err 14) (Some (plain 34359704828 34359704831 rw ∷ plain 34359704831 34359705599 x ∷ plain 34359705599 34359705600 rw ∷ []))
    ∷ kernel_step 0 (Touch 275 Write) (Ok (Signal MapErr)) None
    ∷ kernel_step 0 (Map 1122304 8192 rw 50 (negsuc 0) 0) (Ok (Returned 1122304)) (Some (plain 274 276 rw ∷ plain 34359704828 34359704831 rw ∷ plain 34359704831 34359705599 x ∷ plain 34359705599 34359705600 rw ∷ []))
    ∷ kernel_step 0 (Touch 272 Write) (Ok (Signal MapErr)) None
    ∷ kernel_step 0 (Touch 272 Write) (Ok (Signal MapErr)) None
    ∷ kernel_step 0 (Remap 1118208 12288 12288 3 1089536) (Err 14) (Some (plain 274 276 rw ∷ plain 34359704828 34359704831 rw ∷ plain 34359704831 34359705599 x ∷ plain 34359705599 34359705600 rw ∷ []))
    ∷ kernel_step 0 (Protect 1089536 16384 none) (Err 12) (Some (plain 274 276 rw ∷ plain 34359704828 34359704831 rw ∷ plain 34359704831 34359705599 x ∷ plain 34359705599 34359705600 rw ∷ []))
    ∷ kernel_step 0 (Touch 268 Exec) (Ok (Signal MapErr)) None
    ∷ kernel_step 0 (Remap 1101824 4096 8192 1 0) (Err 14) (Some (plain 274 276 rw ∷ plain 34359704828 34359704831 rw ∷ plain 34359704831 34359705599 x ∷ plain 34359705599 34359705600 rw ∷ []))
    ∷ kernel_step 0 (Touch 267 Write) (Ok (Signal MapErr)) None
    ∷ kernel_step 0 (Protect 1105920 12288 rw) (Err 12) (Some (plain 274 276 rw ∷ plain 34359704828 34359704831 rw ∷ plain 34359704831 34359705599 x ∷ plain 34359705599 34359705600 rw ∷ []))
    ∷ kernel_step 0 (Map 0 4096 r 34 (negsuc 0) 0) (Ok (Returned 140737350971392)) (Some (plain 274 276 rw ∷ plain 34359704827 34359704828 r ∷ plain 34359704828 34359704831 rw ∷ plain 34359704831 34359705599 x ∷ plain 34359705599 34359705600 rw ∷ []))
    ∷ kernel_step 0 (Touch 274 Write) (Ok (Serves 274 276 rw false 0)) None
    ∷ kernel_step 0 (Protect 1105920 8192 rw) (Err 12) (Some (plain 274 276 rw ∷ plain 34359704827 34359704828 r ∷ plain 34359704828 34359704831 rw ∷ plain 34359704831 34359705599 x ∷ plain 34359705599 34359705600 rw ∷ []))
    ∷ kernel_step 0 (Touch 269 Write) (Ok (Signal MapErr)) None
    ∷ kernel_step 0 (Remap 1089536 12288 24576 0 0) (Err 14) (Some (plain 274 276 rw ∷ plain 34359704827 34359704828 r ∷ plain 34359704828 34359704831 rw ∷ plain 34359704831 34359705599 x ∷ plain 34359705599 34359705600 rw ∷ []))
    ∷ kernel_step 0 (Touch 266 Write) (Ok (Signal MapErr)) None
    ∷ kernel_step 0 (Remap 1105920 12288 4096 0 0) (Err 14) (Some (plain 274 276 rw ∷ plain 34359704827 34359704828 r ∷ plain 34359704828 34359704831 rw ∷ plain 34359704831 34359705599 x ∷ plain 34359705599 34359705600 rw ∷ []))
    ∷ kernel_step 0 (Protect 1105920 4096 r) (Err 12) (Some (plain 274 276 rw ∷ plain 34359704827 34359704828 r ∷ plain 34359704828 34359704831 rw ∷ plain 34359704831 34359705599 x ∷ plain 34359705599 34359705600 rw ∷ []))
    ∷ kernel_step 0 (Unmap 1089536 12288) (Ok (Returned 0)) (Some (plain 274 276 rw ∷ plain 34359704827 34359704828 r ∷ plain 34359704828 34359704831 rw ∷ plain 34359704831 34359705599 x ∷ plain 34359705599 34359705600 rw ∷ []))
    ∷ kernel_step 0 (Protect 1105920 4096 rwx) (Err 12) (Some (plain 274 276 rw ∷ plain 34359704827 34359704828 r ∷ plain 34359704828 34359704831 rw ∷ plain 34359704831 34359705599 x ∷ plain 34359705599 34359705600 rw ∷ []))
    ∷ kernel_step 0 (Remap 1105920 4096 4096 5 0) (Err 14) (Some (plain 274 276 rw ∷ plain 34359704827 34359704828 r ∷ plain 34359704828 34359704831 rw ∷ plain 34359704831 34359705599 x ∷ plain 34359705599 34359705600 rw ∷ []))
    ∷ kernel_step 0 (Touch 270 Write) (Ok (Signal MapErr)) None
    ∷ kernel_step 0 (Remap 1105920 4096 4096 5 0) (Err 14) (Some (plain 274 276 rw ∷ plain 34359704827 34359704828 r ∷ plain 34359704828 34359704831 rw ∷ plain 34359704831 34359705599 x ∷ plain 34359705599 34359705600 rw ∷ []))
    ∷ kernel_step 0 (Touch 259 Write) (Ok (Signal MapErr)) (Some (plain 274 276 rw ∷ plain 34359704827 34359704828 r ∷ plain 34359704828 34359704831 rw ∷ plain 34359704831 34359705599 x ∷ plain 34359705599 34359705600 rw ∷ []))
    ∷ []

-- sealed_122: the kernel
abbrev pub sealed_122_on : Kernel
sealed_122_on = record { rules = linux_6_16; machine = record { lowest_built = 16; memory = 245000; stack = 8388608; has_keys = true; huge_always = true; files_are_huge = false; vsyscall = Xonly }; config = config 4096 140737354133504 65530 0 (file_row 3 true true 20000 ∷ file_row 4 true false 5000 ∷ file_row 5 true true 0 ∷ []) }

-- sealed_122: its answers
abbrev pub sealed_122 : List Step
sealed_122 =
    kernel_step 0 (Map 1085440 16384 rw 50 (negsuc 0) 0) (Ok (Returned 1085440)) (Some (plain 265 269 rw ∷ []))
    ∷ kernel_step 0 (Map 1077248 8192 r 49 (negsuc 0) 0) (Ok (Returned 1077248)) (Some (filed 263 265 r true 0 4 ∷ plain 265 269 rw ∷ []))
    ∷ kernel_step 0 (Protect 1085440 16384 r) (Ok (Returned 0)) (Some (filed 263 265 r true 0 4 ∷ plain 265 269 r ∷ []))
    ∷ kernel_step 0 (Seal 1081344 8192 0) (Ok (Returned 0)) (Some (filed 263 264 r true 0 4 ∷ filed 264 265 r true 4096 4 ∷ plain 265 266 r ∷ plain 266 269 r ∷ []))
    ∷ kernel_step 0 (Map 0 8192 r 34 (negsuc 0) 0) (Ok (Returned 140737354125312)) (Some (filed 263 264 r true 0 4 ∷ filed 264 265 r true 4096 4 ∷ plain 265 266 r ∷ plain 266 269 r ∷ plain 34359705597 34359705599 r ∷ []))
    ∷ kernel_step 0 (Map 1114112 8192 rw 50 (negsuc 0) 0) (Ok (Returned 1114112)) (Some (filed 263 264 r true 0 4 ∷ filed 264 265 r true 4096 4 ∷ plain 265 266 r ∷ plain 266 269 r ∷ plain 272 274 rw ∷ plain 34359705597 34359705599 r ∷ []))
    ∷ kernel_step 0 (Remap 1118208 8192 20480 0 0) (Err 14) (Some (filed 263 264 r true 0 4 ∷ filed 264 265 r true 4096 4 ∷ plain 265 266 r ∷ plain 266 269 r ∷ plain 272 274 rw ∷ plain 34359705597 34359705599 r ∷ []))
    ∷ kernel_step 0 (Seal 1097728 16384 0) (Err 12) (Some (filed 263 264 r true 0 4 ∷ filed 264 265 r true 4096 4 ∷ plain 265 266 r ∷ plain 266 269 r ∷ plain 272 274 rw ∷ plain 34359705597 34359705599 r ∷ []))
    ∷ kernel_step 0 (Seal 1077248 8192 0) (Ok (Returned 0)) (Some (filed 263 265 r true 0 4 ∷ plain 265 266 r ∷ plain 266 269 r ∷ plain 272 274 rw ∷ plain 34359705597 34359705599 r ∷ []))
    ∷ kernel_step 0 (Touch 268 Write) (Ok (Signal AccErr)) None
    ∷ kernel_step 0 (Seal 1077248 4096 0) (Ok (Returned 0)) (Some (filed 263 265 r true 0 4 ∷ plain 265 266 r ∷ plain 266 269 r ∷ plain 272 274 rw ∷ plain 34359705597 34359705599 r ∷ []))
    ∷ kernel_step 0 (Map 0 12288 rw 34 (negsuc 0) 0) (Ok (Returned 140737354113024)) (Some (filed 263 265 r true 0 4 ∷ plain 265 266 r ∷ plain 266 269 r ∷ plain 272 274 rw ∷ plain 34359705594 34359705597 rw ∷ plain 34359705597 34359705599 r ∷ []))
    ∷ kernel_step 0 (Protect 1064960 4096 rw) (Err 12) (Some (filed 263 265 r true 0 4 ∷ plain 265 266 r ∷ plain 266 269 r ∷ plain 272 274 rw ∷ plain 34359705594 34359705597 rw ∷ plain 34359705597 34359705599 r ∷ []))
    ∷ kernel_step 0 (Protect 1077248 20480 r) (Err 1) (Some (filed 263 265 r true 0 4 ∷ plain 265 266 r ∷ plain 266 269 r ∷ plain 272 274 rw ∷ plain 34359705594 34359705597 rw ∷ plain 34359705597 34359705599 r ∷ []))
    ∷ kernel_step 0 (Map 1056768 12288 r 1048610 (negsuc 0) 0) (Ok (Returned 1056768)) (Some (plain 258 261 r ∷ filed 263 265 r true 0 4 ∷ plain 265 266 r ∷ plain 266 269 r ∷ plain 272 274 rw ∷ plain 34359705594 34359705597 rw ∷ plain 34359705597 34359705599 r ∷ []))
    ∷ kernel_step 0 (Remap 1118208 4096 4096 7 1114112) (Ok (Returned 1114112)) (Some (plain 258 261 r ∷ filed 263 265 r true 0 4 ∷ plain 265 266 r ∷ plain 266 269 r ∷ plain 272 274 rw ∷ plain 34359705594 34359705597 rw ∷ plain 34359705597 34359705599 r ∷ []))
    ∷ kernel_step 0 (Seal 1114112 4096 0) (Ok (Returned 0)) (Some (plain 258 261 r ∷ filed 263 265 r true 0 4 ∷ plain 265 266 r ∷ plain 266 269 r ∷ plain 272 273 rw ∷ plain 273 274 rw ∷ plain 34359705594 34359705597 rw ∷ plain 34359705597 34359705599 r ∷ []))
    ∷ kernel_step 0 (Map 1122304 8192 r 16418 (negsuc 0) 0) (Ok (Returned 1122304)) (Some (plain 258 261 r ∷ filed 263 265 r true 0 4 ∷ plain 265 266 r ∷ plain 266 269 r ∷ plain 272 273 rw ∷ plain 273 274 rw ∷ plain 274 276 r ∷ plain 34359705594 34359705597 rw ∷ plain 34359705597 34359705599 r ∷ []))
    ∷ kernel_step 0 (Protect 1056768 12288 r) (Ok (Returned 0)) (Some (plain 258 261 r ∷ filed 263 265 r true 0 4 ∷ plain 265 266 r ∷ plain 266 269 r ∷ plain 272 273 rw ∷ plain 273 274 rw ∷ plain 274 276 r ∷ plain 34359705594 34359705597 rw ∷ plain 34359705597 34359705599 r ∷ []))
    ∷ kernel_step 0 (Seal 1118208 4096 0) (Ok (Returned 0)) (Some (plain 258 261 r ∷ filed 263 265 r true 0 4 ∷ plain 265 266 r ∷ plain 266 269 r ∷ plain 272 274 rw ∷ plain 274 276 r ∷ plain 34359705594 34359705597 rw ∷ plain 34359705597 34359705599 r ∷ []))
    ∷ kernel_step 0 (Touch 265 Exec) (Ok (Signal AccErr)) None
    ∷ kernel_step 0 (Protect 1077248 8192 rw) (Err 1) (Some (plain 258 261 r ∷ filed 263 265 r true 0 4 ∷ plain 265 266 r ∷ plain 266 269 r ∷ plain 272 274 rw ∷ plain 274 276 r ∷ plain 34359705594 34359705597 rw ∷ plain 34359705597 34359705599 r ∷ []))
    ∷ kernel_step 0 (Map 1118208 12288 r 34 (negsuc 0) 0) (Ok (Returned 140737354100736)) (Some (plain 258 261 r ∷ filed 263 265 r true 0 4 ∷ plain 265 266 r ∷ plain 266 269 r ∷ plain 272 274 rw ∷ plain 274 276 r ∷ plain 34359705591 34359705594 r ∷ plain 34359705594 34359705597 rw ∷ plain 34359705597 34359705599 r ∷ []))
    ∷ kernel_step 0 (Map 140737354133504 16384 rw 305 (negsuc 0) 0) (Err 22) (Some (plain 258 261 r ∷ filed 263 265 r true 0 4 ∷ plain 265 266 r ∷ plain 266 269 r ∷ plain 272 274 rw ∷ plain 274 276 r ∷ plain 34359705591 34359705594 r ∷ plain 34359705594 34359705597 rw ∷ plain 34359705597 34359705599 r ∷ []))
    ∷ kernel_step 0 (Unmap 1118208 4096) (Err 1) (Some (plain 258 261 r ∷ filed 263 265 r true 0 4 ∷ plain 265 266 r ∷ plain 266 269 r ∷ plain 272 274 rw ∷ plain 274 276 r ∷ plain 34359705591 34359705594 r ∷ plain 34359705594 34359705597 rw ∷ plain 34359705597 34359705599 r ∷ []))
    ∷ kernel_step 0 (Unmap 1085440 32768) (Err 1) (Some (plain 258 261 r ∷ filed 263 265 r true 0 4 ∷ plain 265 266 r ∷ plain 266 269 r ∷ plain 272 274 rw ∷ plain 274 276 r ∷ plain 34359705591 34359705594 r ∷ plain 34359705594 34359705597 rw ∷ plain 34359705597 34359705599 r ∷ []))
    ∷ kernel_step 0 (Map 1048576 8192 r 1048866 (negsuc 0) 0) (Ok (Returned 1048576)) (Some (plain 256 258 r ∷ plain 258 261 r ∷ filed 263 265 r true 0 4 ∷ plain 265 266 r ∷ plain 266 269 r ∷ plain 272 274 rw ∷ plain 274 276 r ∷ plain 34359705591 34359705594 r ∷ plain 34359705594 34359705597 rw ∷ plain 34359705597 34359705599 r ∷ []))
    ∷ kernel_step 0 (Seal 1114112 20480 0) (Err 12) (Some (plain 256 258 r ∷ plain 258 261 r ∷ filed 263 265 r true 0 4 ∷ plain 265 266 r ∷ plain 266 269 r ∷ plain 272 274 rw ∷ plain 274 276 r ∷ plain 34359705591 34359705594 r ∷ plain 34359705594 34359705597 rw ∷ plain 34359705597 34359705599 r ∷ []))
    ∷ kernel_step 0 (Protect 1089536 12288 rw) (Ok (Returned 0)) (Some (plain 256 258 r ∷ plain 258 261 r ∷ filed 263 265 r true 0 4 ∷ plain 265 266 r ∷ plain 266 269 rw ∷ plain 272 274 rw ∷ plain 274 276 r ∷ plain 34359705591 34359705594 r ∷ plain 34359705594 34359705597 rw ∷ plain 34359705597 34359705599 r ∷ []))
    ∷ kernel_step 0 (Remap 1114112 8192 8192 3 1089536) (Err 1) (Some (plain 256 258 r ∷ plain 258 261 r ∷ filed 263 265 r true 0 4 ∷ plain 265 266 r ∷ plain 266 269 rw ∷ plain 272 274 rw ∷ plain 274 276 r ∷ plain 34359705591 34359705594 r ∷ plain 34359705594 34359705597 rw ∷ plain 34359705597 34359705599 r ∷ []))
    ∷ []

-- written_limit_135: the kernel
abbrev pub written_limit_135_on : Kernel
written_limit_135_on = record { rules = linux_6_16; machine = record { lowest_built = 16; memory = 245000; stack = 8388608; has_keys = true; huge_always = true; files_are_huge = false; vsyscall = Xonly }; config = config 4096 140737354133504 5 0 (file_row 3 true false 0 ∷ file_row 4 false true 5000 ∷ file_row 5 true true 5000 ∷ []) }

-- written_limit_135: its answers
abbrev pub written_limit_135 : List Step
written_limit_135 =
    kernel_step 0 (Map 1077248 12288 rw 50 (negsuc 0) 0) (Ok (Returned 1077248)) (Some (plain 263 266 rw ∷ []))
    ∷ kernel_step 0 (Map 1073152 8192 rw 50 (negsuc 0) 0) (Ok (Returned 1073152)) (Some (plain 262 266 rw ∷ []))
    ∷ kernel_step 0 (Touch 262 Read) (Ok (Serves 262 266 rw false 0)) None
    ∷ kernel_step 0 (Touch 263 Write) (Ok (Serves 262 266 rw false 0)) None
    ∷ kernel_step 0 (Protect 1073152 16384 r) (Ok (Returned 0)) (Some (plain 262 266 r ∷ []))
    ∷ kernel_step 0 (Touch 265 Write) (Ok (Signal AccErr)) None
    ∷ kernel_step 0 (Protect 1048576 4096 rw) (Err 12) (Some (plain 262 266 r ∷ []))
    ∷ kernel_step 0 (Remap 1077248 12288 20480 1 0) (Ok (Returned 1077248)) (Some (plain 262 268 r ∷ []))
    ∷ kernel_step 0 (Map 1064960 12288 rw 50 (negsuc 0) 0) (Ok (Returned 1064960)) (Some (plain 260 263 rw ∷ plain 263 268 r ∷ []))
    ∷ kernel_step 0 (Protect 1077248 20480 rw) (Ok (Returned 0)) (Some (plain 260 268 rw ∷ []))
    ∷ kernel_step 0 (Touch 263 Write) (Ok (Serves 260 268 rw false 0)) None
    ∷ kernel_step 0 (Touch 262 Read) (Ok (Serves 260 268 rw false 0)) None
    ∷ kernel_step 0 (Touch 262 Write) (Ok (Serves 260 268 rw false 0)) None
    ∷ kernel_step 0 (Touch 261 Write) (Ok (Serves 260 268 rw false 0)) None
    ∷ kernel_step 0 (Protect 1069056 8192 rw) (Ok (Returned 0)) (Some (plain 260 268 rw ∷ []))
    ∷ kernel_step 0 (Touch 265 Write) (Ok (Serves 260 268 rw false 0)) None
    ∷ kernel_step 0 (Protect 1064960 32768 rwx) (Ok (Returned 0)) (Some (plain 260 268 rwx ∷ []))
    ∷ kernel_step 0 (Map 1073152 4096 rw 50 (negsuc 0) 0) (Ok (Returned 1073152)) (Some (plain 260 262 rwx ∷ plain 262 263 rw ∷ plain 263 268 rwx ∷ []))
    ∷ kernel_step 0 (Protect 1073152 8192 rwx) (Ok (Returned 0)) (Some (plain 260 268 rwx ∷ []))
    ∷ kernel_step 0 (Map 1060864 4096 r 50 (negsuc 0) 0) (Ok (Returned 1060864)) (Some (plain 259 260 r ∷ plain 260 268 rwx ∷ []))
    ∷ kernel_step 0 (Map 1069056 16384 rw 50 (negsuc 0) 0) (Ok (Returned 1069056)) (Some (plain 259 260 r ∷ plain 260 261 rwx ∷ plain 261 265 rw ∷ plain 265 268 rwx ∷ []))
    ∷ kernel_step 0 (Touch 260 Write) (Ok (Serves 260 261 rwx false 0)) None
    ∷ kernel_step 0 (Touch 265 Write) (Ok (Serves 265 268 rwx false 0)) None
    ∷ kernel_step 0 (Map 1069056 4096 rw 50 (negsuc 0) 0) (Ok (Returned 1069056)) (Some (plain 259 260 r ∷ plain 260 261 rwx ∷ plain 261 265 rw ∷ plain 265 268 rwx ∷ []))
    ∷ kernel_step 0 (Protect 1056768 16384 rwx) (Err 12) (Some (plain 259 260 r ∷ plain 260 261 rwx ∷ plain 261 265 rw ∷ plain 265 268 rwx ∷ []))
    ∷ kernel_step 0 (Map 1073152 12288 rw 50 (negsuc 0) 0) (Ok (Returned 1073152)) (Some (plain 259 260 r ∷ plain 260 261 rwx ∷ plain 261 265 rw ∷ plain 265 268 rwx ∷ []))
    ∷ kernel_step 0 (Remap 1069056 24576 24576 3 1638400) (Err 12) (Some (plain 259 260 r ∷ plain 260 261 rwx ∷ plain 261 265 rw ∷ plain 265 268 rwx ∷ []))
    ∷ kernel_step 0 (Map 1064960 16384 r 50 (negsuc 0) 0) (Ok (Returned 1064960)) (Some (plain 259 264 r ∷ plain 264 265 rw ∷ plain 265 268 rwx ∷ []))
    ∷ kernel_step 0 (Map 1060864 8192 rw 50 (negsuc 0) 0) (Ok (Returned 1060864)) (Some (plain 259 261 rw ∷ plain 261 264 r ∷ plain 264 265 rw ∷ plain 265 268 rwx ∷ []))
    ∷ kernel_step 0 (Protect 1060864 8192 r) (Ok (Returned 0)) (Some (plain 259 264 r ∷ plain 264 265 rw ∷ plain 265 268 rwx ∷ []))
    ∷ []

-- hard_limit_141: the kernel
abbrev pub hard_limit_141_on : Kernel
hard_limit_141_on = record { rules = linux_6_16; machine = record { lowest_built = 16; memory = 245000; stack = 8388608; has_keys = true; huge_always = true; files_are_huge = false; vsyscall = Xonly }; config = config 4096 140737354133504 6 0 ([]) }

-- hard_limit_141: its answers
abbrev pub hard_limit_141 : List Step
hard_limit_141 =
    kernel_step 0 (Map 1110016 16384 rw 50 (negsuc 0) 0) (Ok (Returned 1110016)) (Some (plain 271 275 rw ∷ []))
    ∷ kernel_step 0 (Map 1093632 8192 rw 32818 (negsuc 0) 0) (Ok (Returned 1093632)) (Some (plain 267 269 rw ∷ plain 271 275 rw ∷ []))
    ∷ kernel_step 0 (Touch 272 Read) (Ok (Serves 271 275 rw false 0)) None
    ∷ kernel_step 0 (Protect 1110016 16384 rw) (Ok (Returned 0)) (Some (plain 267 269 rw ∷ plain 271 275 rw ∷ []))
    ∷ kernel_step 0 (Remap 1097728 16384 20480 0 0) (Err 14) (Some (plain 267 269 rw ∷ plain 271 275 rw ∷ []))
    ∷ kernel_step 0 (Unmap 1097728 4096) (Ok (Returned 0)) (Some (plain 267 268 rw ∷ plain 271 275 rw ∷ []))
    ∷ kernel_step 0 (Map 1077248 12288 rw 32818 (negsuc 0) 0) (Ok (Returned 1077248)) (Some (plain 263 266 rw ∷ plain 267 268 rw ∷ plain 271 275 rw ∷ []))
    ∷ kernel_step 0 (Unmap 1110016 16384) (Ok (Returned 0)) (Some (plain 263 266 rw ∷ plain 267 268 rw ∷ []))
    ∷ kernel_step 0 (Protect 1093632 4096 rw) (Ok (Returned 0)) (Some (plain 263 266 rw ∷ plain 267 268 rw ∷ []))
    ∷ kernel_step 0 (Touch 267 Write) (Ok (Serves 267 268 rw false 0)) None
    ∷ kernel_step 0 (Protect 1077248 20480 r) (Err 12) (Some (plain 263 266 r ∷ plain 267 268 rw ∷ []))
    ∷ kernel_step 0 (Touch 267 Write) (Ok (Serves 267 268 rw false 0)) None
    ∷ kernel_step 0 (Touch 267 Read) (Ok (Serves 267 268 rw false 0)) None
    ∷ kernel_step 0 (Touch 267 Write) (Ok (Serves 267 268 rw false 0)) None
    ∷ kernel_step 0 (Touch 265 Write) (Ok (Signal AccErr)) None
    ∷ kernel_step 0 (Touch 261 Write) (Ok (Signal MapErr)) None
    ∷ kernel_step 0 (Remap 1093632 4096 12288 1 0) (Ok (Returned 1093632)) (Some (plain 263 266 r ∷ plain 267 270 rw ∷ []))
    ∷ kernel_step 0 (Protect 1097728 8192 r) (Ok (Returned 0)) (Some (plain 263 266 r ∷ plain 267 268 rw ∷ plain 268 270 r ∷ []))
    ∷ kernel_step 0 (Map 1089536 16384 r 50 (negsuc 0) 0) (Ok (Returned 1089536)) (Some (plain 263 266 r ∷ plain 266 270 r ∷ []))
    ∷ kernel_step 0 (Map 1069056 8192 r 50 (negsuc 0) 0) (Ok (Returned 1069056)) (Some (plain 261 263 r ∷ plain 263 266 r ∷ plain 266 270 r ∷ []))
    ∷ kernel_step 0 (Map 1069056 8192 rw 50 (negsuc 0) 0) (Ok (Returned 1069056)) (Some (plain 261 263 rw ∷ plain 263 266 r ∷ plain 266 270 r ∷ []))
    ∷ kernel_step 0 (Map 1105920 16384 rw 131122 (negsuc 0) 0) (Ok (Returned 1105920)) (Some (plain 261 263 rw ∷ plain 263 266 r ∷ plain 266 270 r ∷ plain 270 274 rw ∷ []))
    ∷ kernel_step 0 (Remap 1105920 16384 16384 5 0) (Err 12) (Some (plain 261 263 rw ∷ plain 263 266 r ∷ plain 266 270 r ∷ plain 270 274 rw ∷ []))
    ∷ kernel_step 0 (Protect 1105920 12288 rw) (Ok (Returned 0)) (Some (plain 261 263 rw ∷ plain 263 266 r ∷ plain 266 270 r ∷ plain 270 274 rw ∷ []))
    ∷ kernel_step 0 (Map 1105920 16384 rw 1179682 (negsuc 0) 0) (Err 17) (Some (plain 261 263 rw ∷ plain 263 266 r ∷ plain 266 270 r ∷ plain 270 274 rw ∷ []))
    ∷ kernel_step 0 (Protect 1077248 12288 rw) (Ok (Returned 0)) (Some (plain 261 266 rw ∷ plain 266 270 r ∷ plain 270 274 rw ∷ []))
    ∷ kernel_step 0 (Protect 1105920 4096 rw) (Ok (Returned 0)) (Some (plain 261 266 rw ∷ plain 266 270 r ∷ plain 270 274 rw ∷ []))
    ∷ kernel_step 0 (Unmap 1056768 16384) (Ok (Returned 0)) (Some (plain 262 266 rw ∷ plain 266 270 r ∷ plain 270 274 rw ∷ []))
    ∷ kernel_step 0 (Protect 1077248 8192 rw) (Ok (Returned 0)) (Some (plain 262 266 rw ∷ plain 266 270 r ∷ plain 270 274 rw ∷ []))
    ∷ kernel_step 0 (Protect 1089536 16384 rw) (Ok (Returned 0)) (Some (plain 262 270 rw ∷ plain 270 274 rw ∷ []))
    ∷ []

-- written_161: the kernel
abbrev pub written_161_on : Kernel
written_161_on = record { rules = linux_6_16; machine = record { lowest_built = 16; memory = 245000; stack = 8388608; has_keys = true; huge_always = true; files_are_huge = false; vsyscall = Xonly }; config = config 4096 140737354133504 65530 0 (file_row 3 true false 20000 ∷ file_row 4 true true 5000 ∷ []) }

-- written_161: its answers
abbrev pub written_161 : List Step
written_161 =
    kernel_step 0 (Map 1073152 12288 rw 50 (negsuc 0) 0) (Ok (Returned 1073152)) (Some (plain 262 265 rw ∷ []))
    ∷ kernel_step 0 (Map 1056768 4096 rw 50 (negsuc 0) 0) (Ok (Returned 1056768)) (Some (plain 258 259 rw ∷ plain 262 265 rw ∷ []))
    ∷ kernel_step 0 (Protect 1069056 4096 rw) (Err 12) (Some (plain 258 259 rw ∷ plain 262 265 rw ∷ []))
    ∷ kernel_step 0 (Protect 1060864 8192 r) (Err 12) (Some (plain 258 259 rw ∷ plain 262 265 rw ∷ []))
    ∷ kernel_step 0 (Unmap 1073152 12288) (Ok (Returned 0)) (Some (plain 258 259 rw ∷ []))
    ∷ kernel_step 0 (Touch 258 Write) (Ok (Serves 258 259 rw false 0)) None
    ∷ kernel_step 0 (Remap 1069056 8192 8192 7 1048576) (Err 14) (Some (plain 258 259 rw ∷ []))
    ∷ kernel_step 0 (Touch 258 Write) (Ok (Serves 258 259 rw false 0)) None
    ∷ kernel_step 0 (Protect 1073152 4096 rw) (Err 12) (Some (plain 258 259 rw ∷ []))
    ∷ kernel_step 0 (Map 1056768 34359738368 r 50 (negsuc 0) 0) (Ok (Returned 1056768)) (Some (plain 258 8388866 r ∷ []))
    ∷ kernel_step 0 (Map 1052672 34359738368 r 49 (negsuc 0) 0) (Err 12) (Some (plain 8388865 8388866 r ∷ []))
    ∷ kernel_step 0 (Protect 34360791040 4096 r) (Ok (Returned 0)) (Some (plain 8388865 8388866 r ∷ []))
    ∷ kernel_step 0 (Touch 8388865 Write) (Ok (Signal AccErr)) None
    ∷ kernel_step 0 (Map 1056768 17179869184 rw 49 (negsuc 0) 0) (Err 12) (Some (plain 8388865 8388866 r ∷ []))
    ∷ kernel_step 0 (Touch 8388865 Write) (Ok (Signal AccErr)) None
    ∷ kernel_step 0 (Touch 8388865 Write) (Ok (Signal AccErr)) None
    ∷ kernel_step 0 (Fork 1) (Ok (Returned 0)) None
    ∷ kernel_step 0 (Protect 1073152 12288 rw) (Err 12) (Some (plain 8388865 8388866 r ∷ []))
    ∷ kernel_step 1 (Protect 1056768 16384 r) (Err 12) (Some (plain 8388865 8388866 r ∷ []))
    ∷ kernel_step 1 (Protect 1064960 20480 r) (Err 12) (Some (plain 8388865 8388866 r ∷ []))
    ∷ kernel_step 0 (Remap 34360791040 4096 4096 3 1605632) (Ok (Returned 1605632)) (Some (plain 392 393 r ∷ []))
    ∷ kernel_step 1 (Touch 8388865 Read) (Ok (Serves 8388865 8388866 r false 0)) None
    ∷ kernel_step 0 (Map 1064960 34359738368 rw 50 (negsuc 0) 0) (Err 12) (Some (plain 392 393 r ∷ []))
    ∷ kernel_step 1 (Protect 34360791040 4096 r) (Ok (Returned 0)) (Some (plain 8388865 8388866 r ∷ []))
    ∷ kernel_step 0 (Remap 1605632 4096 4096 7 1601536) (Ok (Returned 1601536)) (Some (plain 391 393 r ∷ []))
    ∷ kernel_step 1 (Protect 34360791040 20480 r) (Err 12) (Some (plain 8388865 8388866 r ∷ []))
    ∷ kernel_step 0 (Touch 392 Write) (Ok (Signal AccErr)) None
    ∷ kernel_step 1 (Touch 8388865 Write) (Ok (Signal AccErr)) None
    ∷ kernel_step 0 (Touch 391 Write) (Ok (Signal AccErr)) (Some (plain 391 393 r ∷ []))
    ∷ kernel_step 1 (Remap 34360791040 4096 4096 7 1609728) (Ok (Returned 1609728)) (Some (plain 393 394 r ∷ plain 8388865 8388866 r ∷ []))
    ∷ []

-- written_166: the kernel
abbrev pub written_166_on : Kernel
written_166_on = record { rules = linux_6_16; machine = record { lowest_built = 16; memory = 245000; stack = 8388608; has_keys = true; huge_always = true; files_are_huge = false; vsyscall = Xonly }; config = config 4096 140737354133504 65530 0 (file_row 3 true false 90000 ∷ file_row 4 false true 20000 ∷ []) }

-- written_166: its answers
abbrev pub written_166 : List Step
written_166 =
    kernel_step 0 (Map 1064960 16384 rw 50 (negsuc 0) 0) (Ok (Returned 1064960)) (Some (plain 260 264 rw ∷ []))
    ∷ kernel_step 0 (Map 1052672 8192 rw 50 (negsuc 0) 0) (Ok (Returned 1052672)) (Some (plain 257 259 rw ∷ plain 260 264 rw ∷ []))
    ∷ kernel_step 0 (Touch 258 Write) (Ok (Serves 257 259 rw false 0)) None
    ∷ kernel_step 0 (Touch 258 Write) (Ok (Serves 257 259 rw false 0)) None
    ∷ kernel_step 0 (Touch 258 Write) (Ok (Serves 257 259 rw false 0)) None
    ∷ kernel_step 0 (Touch 257 Write) (Ok (Serves 257 259 rw false 0)) None
    ∷ kernel_step 0 (Touch 260 Write) (Ok (Serves 260 264 rw false 0)) None
    ∷ kernel_step 0 (Protect 1064960 12288 rw) (Ok (Returned 0)) (Some (plain 257 259 rw ∷ plain 260 264 rw ∷ []))
    ∷ kernel_step 0 (Map 1064960 34359758848 r 50 (negsuc 0) 0) (Ok (Returned 1064960)) (Some (plain 257 259 rw ∷ plain 260 8388873 r ∷ []))
    ∷ kernel_step 0 (Remap 1056768 12288 12288 7 1642496) (Err 14) (Some (plain 257 259 rw ∷ plain 260 401 r ∷ plain 404 8388873 r ∷ []))
    ∷ kernel_step 0 (Touch 257 Write) (Ok (Serves 257 259 rw false 0)) None
    ∷ kernel_step 0 (Protect 1052672 589824 r) (Err 12) (Some (plain 257 259 r ∷ plain 260 401 r ∷ plain 404 8388873 r ∷ []))
    ∷ kernel_step 0 (Map 1064960 12288 rw 50 (negsuc 0) 0) (Ok (Returned 1064960)) (Some (plain 257 259 r ∷ plain 260 263 rw ∷ plain 263 401 r ∷ plain 404 8388873 r ∷ []))
    ∷ kernel_step 0 (Fork 1) (Ok (Returned 0)) None
    ∷ kernel_step 1 (Remap 1110016 24576 24576 7 1638400) (Ok (Returned 1638400)) (Some (plain 257 259 r ∷ plain 260 263 rw ∷ plain 263 8388873 r ∷ []))
    ∷ kernel_step 1 (Protect 1052672 12288 rw) (Err 12) (Some (plain 257 259 rw ∷ plain 260 263 rw ∷ plain 263 8388873 r ∷ []))
    ∷ kernel_step 1 (Touch 268 Write) (Ok (Signal AccErr)) None
    ∷ kernel_step 1 (Touch 260 Read) (Ok (Serves 260 263 rw false 0)) None
    ∷ kernel_step 0 (Map 1052672 16384 rw 50 (negsuc 0) 0) (Ok (Returned 1052672)) (Some (plain 257 263 rw ∷ plain 263 401 r ∷ plain 404 8388873 r ∷ []))
    ∷ kernel_step 0 (Touch 258 Write) (Ok (Serves 257 263 rw false 0)) None
    ∷ kernel_step 0 (Protect 1060864 16384 r) (Ok (Returned 0)) (Some (plain 257 259 rw ∷ plain 259 263 r ∷ plain 263 401 r ∷ plain 404 8388873 r ∷ []))
    ∷ kernel_step 1 (Touch 257 Read) (Ok (Serves 257 259 rw false 0)) None
    ∷ kernel_step 0 (Touch 405 Write) (Ok (Signal AccErr)) None
    ∷ kernel_step 1 (Touch 262 Write) (Ok (Serves 260 263 rw false 0)) None
    ∷ kernel_step 1 (Remap 1638400 24576 24576 3 1110016) (Ok (Returned 1110016)) (Some (plain 257 259 rw ∷ plain 260 263 rw ∷ plain 263 400 r ∷ plain 406 8388873 r ∷ []))
    ∷ kernel_step 0 (Unmap 1052672 4096) (Ok (Returned 0)) (Some (plain 258 259 rw ∷ plain 259 263 r ∷ plain 263 401 r ∷ plain 404 8388873 r ∷ []))
    ∷ kernel_step 1 (Remap 1642496 12288 12288 3 1056768) (Err 14) (Some (plain 257 259 rw ∷ plain 260 263 rw ∷ plain 263 400 r ∷ plain 406 8388873 r ∷ []))
    ∷ kernel_step 0 (Remap 1056768 20480 20480 3 1605632) (Err 14) (Some (plain 258 259 rw ∷ plain 259 263 r ∷ plain 263 392 r ∷ plain 397 401 r ∷ plain 404 8388873 r ∷ []))
    ∷ kernel_step 1 (Protect 1077248 49152 rw) (Ok (Returned 0)) (Some (plain 257 259 rw ∷ plain 260 275 rw ∷ plain 275 400 r ∷ plain 406 8388873 r ∷ []))
    ∷ kernel_step 0 (Remap 1048576 4096 8192 3 34360823808) (Err 14) (Some (plain 258 259 rw ∷ plain 259 263 r ∷ plain 263 392 r ∷ plain 397 401 r ∷ plain 404 8388873 r ∷ []))
    ∷ []

-- written_174: the kernel
abbrev pub written_174_on : Kernel
written_174_on = record { rules = linux_6_16; machine = record { lowest_built = 16; memory = 245000; stack = 8388608; has_keys = true; huge_always = true; files_are_huge = false; vsyscall = Xonly }; config = config 4096 140737354133504 65530 0 ([]) }

-- written_174: its answers
abbrev pub written_174 : List Step
written_174 =
    kernel_step 0 (Map 1060864 8192 rw 50 (negsuc 0) 0) (Ok (Returned 1060864)) (Some (plain 259 261 rw ∷ []))
    ∷ kernel_step 0 (Map 1048576 34359758848 rw 50 (negsuc 0) 0) (Err 12) (Some (plain 259 261 rw ∷ []))
    ∷ kernel_step 0 (Remap 1052672 12288 12288 3 1060864) (Err 14) (Some (plain 259 261 rw ∷ []))
    ∷ kernel_step 0 (Protect 1060864 8192 rw) (Ok (Returned 0)) (Some (plain 259 261 rw ∷ []))
    ∷ kernel_step 0 (Touch 259 Write) (Ok (Serves 259 261 rw false 0)) None
    ∷ kernel_step 0 (Touch 260 Write) (Ok (Serves 259 261 rw false 0)) None
    ∷ kernel_step 0 (Protect 1060864 8192 rw) (Ok (Returned 0)) (Some (plain 259 261 rw ∷ []))
    ∷ kernel_step 0 (Map 1052672 34359738368 r 49 (negsuc 0) 0) (Err 12) (Some ([]))
    ∷ kernel_step 0 (Touch 258 Write) (Ok (Signal MapErr)) None
    ∷ kernel_step 0 (Protect 1048576 12288 rw) (Err 12) (Some ([]))
    ∷ kernel_step 0 (Touch 260 Write) (Ok (Signal MapErr)) None
    ∷ kernel_step 0 (Protect 1052672 4096 r) (Err 12) (Some ([]))
    ∷ kernel_step 0 (Protect 1064960 20480 rw) (Err 12) (Some ([]))
    ∷ kernel_step 0 (Map 1060864 16384 rw 50 (negsuc 0) 0) (Ok (Returned 1060864)) (Some (plain 259 263 rw ∷ []))
    ∷ kernel_step 0 (Map 1060864 12288 rw 50 (negsuc 0) 0) (Ok (Returned 1060864)) (Some (plain 259 263 rw ∷ []))
    ∷ kernel_step 0 (Touch 262 Write) (Ok (Serves 259 263 rw false 0)) None
    ∷ kernel_step 0 (Protect 1060864 4096 rwx) (Ok (Returned 0)) (Some (plain 259 260 rwx ∷ plain 260 263 rw ∷ []))
    ∷ kernel_step 0 (Touch 259 Write) (Ok (Serves 259 260 rwx false 0)) None
    ∷ kernel_step 0 (Remap 1060864 12288 12288 3 1052672) (Err 22) (Some (plain 259 260 rwx ∷ plain 260 263 rw ∷ []))
    ∷ kernel_step 0 (Remap 1064960 8192 8192 3 1638400) (Ok (Returned 1638400)) (Some (plain 259 260 rwx ∷ plain 262 263 rw ∷ plain 400 402 rw ∷ []))
    ∷ kernel_step 0 (Map 1064960 16384 rwx 50 (negsuc 0) 0) (Ok (Returned 1064960)) (Some (plain 259 264 rwx ∷ plain 400 402 rw ∷ []))
    ∷ kernel_step 0 (Unmap 1052672 4096) (Ok (Returned 0)) (Some (plain 259 264 rwx ∷ plain 400 402 rw ∷ []))
    ∷ kernel_step 0 (Remap 1060864 20480 20480 7 1609728) (Ok (Returned 1609728)) (Some (plain 259 264 rwx ∷ plain 393 398 rwx ∷ plain 400 402 rw ∷ []))
    ∷ kernel_step 0 (Map 1052672 16384 rwx 50 (negsuc 0) 0) (Ok (Returned 1052672)) (Some (plain 257 261 rwx ∷ plain 261 264 rwx ∷ plain 393 398 rwx ∷ plain 400 402 rw ∷ []))
    ∷ kernel_step 0 (Remap 1613824 16384 16384 3 1064960) (Ok (Returned 1064960)) (Some (plain 257 264 rwx ∷ plain 393 394 rwx ∷ plain 400 402 rw ∷ []))
    ∷ kernel_step 0 (Remap 1060864 24576 32768 1 0) (Err 14) (Some (plain 257 264 rwx ∷ plain 393 394 rwx ∷ plain 400 402 rw ∷ []))
    ∷ kernel_step 0 (Touch 400 Write) (Ok (Serves 400 402 rw false 0)) None
    ∷ kernel_step 0 (Protect 1060864 20480 rwx) (Ok (Returned 0)) (Some (plain 257 264 rwx ∷ plain 393 394 rwx ∷ plain 400 402 rw ∷ []))
    ∷ kernel_step 0 (Protect 1052672 16384 r) (Ok (Returned 0)) (Some (plain 257 261 r ∷ plain 261 264 rwx ∷ plain 393 394 rwx ∷ plain 400 402 rw ∷ []))
    ∷ kernel_step 0 (Touch 257 Read) (Ok (Serves 257 261 r false 0)) (Some (plain 257 261 r ∷ plain 261 264 rwx ∷ plain 393 394 rwx ∷ plain 400 402 rw ∷ []))
    ∷ []

-- written_188: the kernel
abbrev pub written_188_on : Kernel
written_188_on = record { rules = linux_6_16; machine = record { lowest_built = 16; memory = 245000; stack = 8388608; has_keys = true; huge_always = true; files_are_huge = false; vsyscall = Xonly }; config = config 4096 140737354133504 65530 0 (file_row 3 true true 90000 ∷ file_row 4 true true 5000 ∷ file_row 5 true false 0 ∷ []) }

-- written_188: its answers
abbrev pub written_188 : List Step
written_188 =
    kernel_step 0 (Map 1056768 16384 r 50 (negsuc 0) 0) (Ok (Returned 1056768)) (Some (plain 258 262 r ∷ []))
    ∷ kernel_step 0 (Map 1048576 4096 rw 50 (negsuc 0) 0) (Ok (Returned 1048576)) (Some (plain 256 257 rw ∷ plain 258 262 r ∷ []))
    ∷ kernel_step 0 (Remap 1048576 4096 4096 7 1052672) (Ok (Returned 1052672)) (Some (plain 256 258 rw ∷ plain 258 262 r ∷ []))
    ∷ kernel_step 0 (Remap 1048576 4096 4096 7 1605632) (Ok (Returned 1605632)) (Some (plain 256 258 rw ∷ plain 258 262 r ∷ plain 392 393 rw ∷ []))
    ∷ kernel_step 0 (Protect 1060864 8192 r) (Ok (Returned 0)) (Some (plain 256 258 rw ∷ plain 258 262 r ∷ plain 392 393 rw ∷ []))
    ∷ kernel_step 0 (Map 1052672 4096 rw 50 (negsuc 0) 0) (Ok (Returned 1052672)) (Some (plain 256 257 rw ∷ plain 257 258 rw ∷ plain 258 262 r ∷ plain 392 393 rw ∷ []))
    ∷ kernel_step 0 (Touch 392 Read) (Ok (Serves 392 393 rw false 0)) None
    ∷ kernel_step 0 (Fork 1) (Ok (Returned 0)) None
    ∷ kernel_step 0 (Protect 1064960 8192 rw) (Ok (Returned 0)) (Some (plain 256 257 rw ∷ plain 257 258 rw ∷ plain 258 260 r ∷ plain 260 262 rw ∷ plain 392 393 rw ∷ []))
    ∷ kernel_step 1 (Touch 257 Write) (Ok (Serves 257 258 rw false 0)) None
    ∷ kernel_step 1 (Map 1056768 12288 r 50 (negsuc 0) 0) (Ok (Returned 1056768)) (Some (plain 256 257 rw ∷ plain 257 258 rw ∷ plain 258 262 r ∷ plain 392 393 rw ∷ []))
    ∷ kernel_step 0 (Fork 2) (Ok (Returned 0)) None
    ∷ kernel_step 2 (Touch 261 Write) (Ok (Serves 260 262 rw false 0)) None
    ∷ kernel_step 1 (Touch 256 Write) (Ok (Serves 256 257 rw false 0)) None
    ∷ kernel_step 1 (Remap 1605632 4096 4096 3 1048576) (Ok (Returned 1048576)) (Some (plain 256 257 rw ∷ plain 257 258 rw ∷ plain 258 262 r ∷ []))
    ∷ kernel_step 0 (Touch 258 Write) (Ok (Signal AccErr)) None
    ∷ kernel_step 0 (Map 1048576 8192 rw 50 (negsuc 0) 0) (Ok (Returned 1048576)) (Some (plain 256 258 rw ∷ plain 258 260 r ∷ plain 260 262 rw ∷ plain 392 393 rw ∷ []))
    ∷ kernel_step 2 (Protect 1048576 12288 r) (Ok (Returned 0)) (Some (plain 256 260 r ∷ plain 260 262 rw ∷ plain 392 393 rw ∷ []))
    ∷ kernel_step 2 (Protect 1064960 8192 r) (Ok (Returned 0)) (Some (plain 256 260 r ∷ plain 260 262 r ∷ plain 392 393 rw ∷ []))
    ∷ kernel_step 2 (Map 1052672 8192 rw 50 (negsuc 0) 0) (Ok (Returned 1052672)) (Some (plain 256 257 r ∷ plain 257 259 rw ∷ plain 259 260 r ∷ plain 260 262 r ∷ plain 392 393 rw ∷ []))
    ∷ kernel_step 0 (Fork 3) (Ok (Returned 0)) None
    ∷ kernel_step 3 (Map 1052672 4096 rw 50 (negsuc 0) 0) (Ok (Returned 1052672)) (Some (plain 256 258 rw ∷ plain 258 260 r ∷ plain 260 262 rw ∷ plain 392 393 rw ∷ []))
    ∷ kernel_step 0 (Touch 258 Write) (Ok (Signal AccErr)) None
    ∷ kernel_step 0 (Protect 1048576 4096 r) (Ok (Returned 0)) (Some (plain 256 257 r ∷ plain 257 258 rw ∷ plain 258 260 r ∷ plain 260 262 rw ∷ plain 392 393 rw ∷ []))
    ∷ kernel_step 0 (Map 1048576 16384 rw 50 (negsuc 0) 0) (Ok (Returned 1048576)) (Some (plain 256 262 rw ∷ plain 392 393 rw ∷ []))
    ∷ kernel_step 3 (Touch 258 Write) (Ok (Signal AccErr)) None
    ∷ kernel_step 1 (Touch 257 Write) (Ok (Serves 257 258 rw false 0)) None
    ∷ kernel_step 1 (Map 1052672 16384 rw 50 (negsuc 0) 0) (Ok (Returned 1052672)) (Some (plain 256 257 rw ∷ plain 257 261 rw ∷ plain 261 262 r ∷ []))
    ∷ kernel_step 3 (Touch 260 Write) (Ok (Serves 260 262 rw false 0)) (Some (plain 256 258 rw ∷ plain 258 260 r ∷ plain 260 262 rw ∷ plain 392 393 rw ∷ []))
    ∷ kernel_step 2 (Touch 392 Write) (Ok (Serves 392 393 rw false 0)) (Some (plain 256 257 r ∷ plain 257 259 rw ∷ plain 259 260 r ∷ plain 260 262 r ∷ plain 392 393 rw ∷ []))
    ∷ []

-- hard_195: the kernel
abbrev pub hard_195_on : Kernel
hard_195_on = record { rules = linux_6_16; machine = record { lowest_built = 16; memory = 245000; stack = 8388608; has_keys = true; huge_always = true; files_are_huge = false; vsyscall = Xonly }; config = config 4096 140737354133504 65530 1052672 ([]) }

-- hard_195: its answers
abbrev pub hard_195 : List Step
hard_195 =
    kernel_step 0 (Map 1077248 12288 r 50 (negsuc 0) 0) (Ok (Returned 1077248)) (Some (plain 263 266 r ∷ []))
    ∷ kernel_step 0 (Map 1077248 12288 rw 50 (negsuc 0) 0) (Ok (Returned 1077248)) (Some (plain 263 266 rw ∷ []))
    ∷ kernel_step 0 (Break 1044488) (Ok (Returned 1052672)) (Some (plain 263 266 rw ∷ []))
    ∷ kernel_step 0 (Protect 1048576 8192 rw) (Err 12) (Some (plain 263 266 rw ∷ []))
    ∷ kernel_step 0 (Protect 1081344 4096 r) (Ok (Returned 0)) (Some (plain 263 264 rw ∷ plain 264 265 r ∷ plain 265 266 rw ∷ []))
    ∷ kernel_step 0 (Protect 1114112 20480 rw) (Err 12) (Some (plain 263 264 rw ∷ plain 264 265 r ∷ plain 265 266 rw ∷ []))
    ∷ kernel_step 0 (Map 1077248 8192 rw 50 (negsuc 0) 0) (Ok (Returned 1077248)) (Some (plain 263 266 rw ∷ []))
    ∷ kernel_step 0 (Unmap 1077248 20480) (Ok (Returned 0)) (Some ([]))
    ∷ kernel_step 0 (Map 1064960 16384 r 34 (negsuc 0) 0) (Ok (Returned 1064960)) (Some (plain 260 264 r ∷ []))
    ∷ kernel_step 0 (Map 1097728 8192 rw 32818 (negsuc 0) 0) (Ok (Returned 1097728)) (Some (plain 260 264 r ∷ plain 268 270 rw ∷ []))
    ∷ kernel_step 0 (Remap 1097728 8192 8192 7 1081344) (Ok (Returned 1081344)) (Some (plain 260 264 r ∷ plain 264 266 rw ∷ plain 268 270 rw ∷ []))
    ∷ kernel_step 0 (Protect 1085440 4096 r) (Ok (Returned 0)) (Some (plain 260 264 r ∷ plain 264 265 rw ∷ plain 265 266 r ∷ plain 268 270 rw ∷ []))
    ∷ kernel_step 0 (Map 1052672 12288 r 50 (negsuc 0) 0) (Ok (Returned 1052672)) (Some (plain 257 264 r ∷ plain 264 265 rw ∷ plain 265 266 r ∷ plain 268 270 rw ∷ []))
    ∷ kernel_step 0 (Map 1085440 16384 rw 50 (negsuc 0) 0) (Ok (Returned 1085440)) (Some (plain 257 264 r ∷ plain 264 265 rw ∷ plain 265 269 rw ∷ plain 269 270 rw ∷ []))
    ∷ kernel_step 0 (Map 0 4096 r 34 (negsuc 0) 0) (Ok (Returned 140737354129408)) (Some (plain 257 264 r ∷ plain 264 265 rw ∷ plain 265 269 rw ∷ plain 269 270 rw ∷ plain 34359705598 34359705599 r ∷ []))
    ∷ kernel_step 0 (Remap 1052672 32768 32768 3 1019904) (Err 14) (Some (plain 257 264 r ∷ plain 264 265 rw ∷ plain 265 269 rw ∷ plain 269 270 rw ∷ plain 34359705598 34359705599 r ∷ []))
    ∷ kernel_step 0 (Touch 264 Write) (Ok (Serves 264 265 rw false 0)) None
    ∷ kernel_step 0 (Break 1056776) (Ok (Returned 1052672)) (Some (plain 257 264 r ∷ plain 264 265 rw ∷ plain 265 269 rw ∷ plain 269 270 rw ∷ plain 34359705598 34359705599 r ∷ []))
    ∷ kernel_step 0 (Touch 268 Write) (Ok (Serves 265 269 rw false 0)) None
    ∷ kernel_step 0 (Map 140737354125312 4096 rw 50 (negsuc 0) 0) (Ok (Returned 140737354125312)) (Some (plain 257 264 r ∷ plain 264 265 rw ∷ plain 265 269 rw ∷ plain 269 270 rw ∷ plain 34359705597 34359705598 rw ∷ plain 34359705598 34359705599 r ∷ []))
    ∷ kernel_step 0 (Remap 1052672 28672 28672 5 0) (Ok (Returned 140737354096640)) (Some (plain 257 264 r ∷ plain 264 265 rw ∷ plain 265 269 rw ∷ plain 269 270 rw ∷ plain 34359705590 34359705597 r ∷ plain 34359705597 34359705598 rw ∷ plain 34359705598 34359705599 r ∷ []))
    ∷ kernel_step 0 (Map 140737354129408 4096 rw 49 (negsuc 0) 0) (Ok (Returned 140737354129408)) (Some (plain 257 264 r ∷ plain 264 265 rw ∷ plain 265 269 rw ∷ plain 269 270 rw ∷ plain 34359705590 34359705597 r ∷ plain 34359705597 34359705598 rw ∷ filed 34359705598 34359705599 rw true 0 1 ∷ []))
    ∷ kernel_step 0 (Touch 257 Write) (Ok (Signal AccErr)) None
    ∷ kernel_step 0 (Remap 1101824 4096 8192 3 1073152) (Ok (Returned 1073152)) (Some (plain 257 262 r ∷ plain 262 264 rw ∷ plain 264 265 rw ∷ plain 265 269 rw ∷ plain 34359705590 34359705597 r ∷ plain 34359705597 34359705598 rw ∷ filed 34359705598 34359705599 rw true 0 1 ∷ []))
    ∷ kernel_step 0 (Remap 1073152 8192 8192 3 1044480) (Ok (Returned 1044480)) (Some (plain 255 257 rw ∷ plain 257 262 r ∷ plain 264 265 rw ∷ plain 265 269 rw ∷ plain 34359705590 34359705597 r ∷ plain 34359705597 34359705598 rw ∷ filed 34359705598 34359705599 rw true 0 1 ∷ []))
    ∷ kernel_step 0 (Map 1122304 12288 r 32817 (negsuc 0) 0) (Ok (Returned 1122304)) (Some (plain 255 257 rw ∷ plain 257 262 r ∷ plain 264 265 rw ∷ plain 265 269 rw ∷ filed 274 277 r true 0 2 ∷ plain 34359705590 34359705597 r ∷ plain 34359705597 34359705598 rw ∷ filed 34359705598 34359705599 rw true 0 1 ∷ []))
    ∷ kernel_step 0 (Unmap 1044480 8192) (Ok (Returned 0)) (Some (plain 257 262 r ∷ plain 264 265 rw ∷ plain 265 269 rw ∷ filed 274 277 r true 0 2 ∷ plain 34359705590 34359705597 r ∷ plain 34359705597 34359705598 rw ∷ filed 34359705598 34359705599 rw true 0 1 ∷ []))
    ∷ kernel_step 0 (Touch 265 Write) (Ok (Serves 265 269 rw false 0)) None
    ∷ kernel_step 0 (Remap 1081344 16384 20480 3 1101824) (Err 14) (Some (plain 257 262 r ∷ plain 264 265 rw ∷ plain 265 269 rw ∷ filed 274 277 r true 0 2 ∷ plain 34359705590 34359705597 r ∷ plain 34359705597 34359705598 rw ∷ filed 34359705598 34359705599 rw true 0 1 ∷ []))
    ∷ kernel_step 0 (Touch 274 Write) (Ok (Signal AccErr)) (Some (plain 257 262 r ∷ plain 264 265 rw ∷ plain 265 269 rw ∷ filed 274 277 r true 0 2 ∷ plain 34359705590 34359705597 r ∷ plain 34359705597 34359705598 rw ∷ filed 34359705598 34359705599 rw true 0 1 ∷ []))
    ∷ []

-- written_198: the kernel
abbrev pub written_198_on : Kernel
written_198_on = record { rules = linux_6_16; machine = record { lowest_built = 16; memory = 245000; stack = 8388608; has_keys = true; huge_always = true; files_are_huge = false; vsyscall = Xonly }; config = config 4096 140737354133504 65530 0 ([]) }

-- written_198: its answers
abbrev pub written_198 : List Step
written_198 =
    kernel_step 0 (Map 1060864 12288 rw 50 (negsuc 0) 0) (Ok (Returned 1060864)) (Some (plain 259 262 rw ∷ []))
    ∷ kernel_step 0 (Map 1052672 4096 rw 50 (negsuc 0) 0) (Ok (Returned 1052672)) (Some (plain 257 258 rw ∷ plain 259 262 rw ∷ []))
    ∷ kernel_step 0 (Touch 261 Write) (Ok (Serves 259 262 rw false 0)) None
    ∷ kernel_step 0 (Touch 261 Write) (Ok (Serves 259 262 rw false 0)) None
    ∷ kernel_step 0 (Remap 1048576 16384 16384 3 1056768) (Err 14) (Some (plain 257 258 rw ∷ plain 259 262 rw ∷ []))
    ∷ kernel_step 0 (Map 1060864 12288 rw 32818 (negsuc 0) 0) (Ok (Returned 1060864)) (Some (plain 257 258 rw ∷ plain 259 262 rw ∷ []))
    ∷ kernel_step 0 (Remap 1048576 12288 12288 3 1605632) (Err 14) (Some (plain 257 258 rw ∷ plain 259 262 rw ∷ []))
    ∷ kernel_step 0 (Touch 257 Write) (Ok (Serves 257 258 rw false 0)) None
    ∷ kernel_step 0 (Map 1056768 4096 rw 50 (negsuc 0) 0) (Ok (Returned 1056768)) (Some (plain 257 259 rw ∷ plain 259 262 rw ∷ []))
    ∷ kernel_step 0 (Touch 257 Read) (Ok (Serves 257 259 rw false 0)) None
    ∷ kernel_step 0 (Remap 1056768 4096 4096 7 1048576) (Ok (Returned 1048576)) (Some (plain 256 257 rw ∷ plain 257 259 rw ∷ plain 259 262 rw ∷ []))
    ∷ kernel_step 0 (Touch 257 Write) (Ok (Serves 257 259 rw false 0)) None
    ∷ kernel_step 0 (Map 1060864 4096 rw 131122 (negsuc 0) 0) (Ok (Returned 1060864)) (Some (plain 256 257 rw ∷ plain 257 259 rw ∷ plain 259 260 rw ∷ plain 260 262 rw ∷ []))
    ∷ kernel_step 0 (Touch 261 Read) (Ok (Serves 260 262 rw false 0)) None
    ∷ kernel_step 0 (Protect 1048576 8192 rw) (Ok (Returned 0)) (Some (plain 256 257 rw ∷ plain 257 259 rw ∷ plain 259 260 rw ∷ plain 260 262 rw ∷ []))
    ∷ kernel_step 0 (Map 1060864 4096 rw 50 (negsuc 0) 0) (Ok (Returned 1060864)) (Some (plain 256 257 rw ∷ plain 257 259 rw ∷ plain 259 262 rw ∷ []))
    ∷ kernel_step 0 (Touch 261 Read) (Ok (Serves 259 262 rw false 0)) None
    ∷ kernel_step 0 (Touch 257 Read) (Ok (Serves 257 259 rw false 0)) None
    ∷ kernel_step 0 (Touch 261 Read) (Ok (Serves 259 262 rw false 0)) None
    ∷ kernel_step 0 (Remap 1052672 4096 4096 3 1605632) (Ok (Returned 1605632)) (Some (plain 256 257 rw ∷ plain 258 259 rw ∷ plain 259 262 rw ∷ plain 392 393 rw ∷ []))
    ∷ kernel_step 0 (Remap 1609728 8192 8192 3 1052672) (Err 14) (Some (plain 256 257 rw ∷ plain 258 259 rw ∷ plain 259 262 rw ∷ plain 392 393 rw ∷ []))
    ∷ kernel_step 0 (Remap 1605632 4096 4096 3 1052672) (Ok (Returned 1052672)) (Some (plain 256 257 rw ∷ plain 257 259 rw ∷ plain 259 262 rw ∷ []))
    ∷ kernel_step 0 (Touch 256 Read) (Ok (Serves 256 257 rw false 0)) None
    ∷ kernel_step 0 (Protect 1064960 12288 rw) (Err 12) (Some (plain 256 257 rw ∷ plain 257 259 rw ∷ plain 259 262 rw ∷ []))
    ∷ kernel_step 0 (Touch 258 Write) (Ok (Serves 257 259 rw false 0)) None
    ∷ kernel_step 0 (Touch 257 Write) (Ok (Serves 257 259 rw false 0)) None
    ∷ kernel_step 0 (Protect 1052672 20480 rw) (Ok (Returned 0)) (Some (plain 256 257 rw ∷ plain 257 259 rw ∷ plain 259 262 rw ∷ []))
    ∷ kernel_step 0 (Protect 1060864 4096 rw) (Ok (Returned 0)) (Some (plain 256 257 rw ∷ plain 257 259 rw ∷ plain 259 262 rw ∷ []))
    ∷ kernel_step 0 (Unmap 1048576 12288) (Ok (Returned 0)) (Some (plain 259 262 rw ∷ []))
    ∷ kernel_step 0 (Touch 259 Write) (Ok (Serves 259 262 rw false 0)) (Some (plain 259 262 rw ∷ []))
    ∷ []

-- hard_208: the kernel
abbrev pub hard_208_on : Kernel
hard_208_on = record { rules = linux_6_16; machine = record { lowest_built = 16; memory = 245000; stack = 8388608; has_keys = true; huge_always = true; files_are_huge = false; vsyscall = Xonly }; config = config 4096 140737354133504 65530 0 ([]) }

-- hard_208: its answers
abbrev pub hard_208 : List Step
hard_208 =
    kernel_step 0 (Map 1085440 12288 r 16434 (negsuc 0) 0) (Ok (Returned 1085440)) (Some (plain 265 268 r ∷ []))
    ∷ kernel_step 0 (Map 1073152 16384 rw 1048609 (negsuc 0) 0) (Err 17) (Some (plain 265 268 r ∷ []))
    ∷ kernel_step 0 (Map 0 4194304 r 131361 (negsuc 0) 0) (Err 22) (Some (plain 265 268 r ∷ []))
    ∷ kernel_step 0 (Touch 265 Write) (Ok (Signal AccErr)) None
    ∷ kernel_step 0 (Protect 1114112 16384 rw) (Err 12) (Some (plain 265 268 r ∷ []))
    ∷ kernel_step 0 (Touch 265 Write) (Ok (Signal AccErr)) None
    ∷ kernel_step 0 (Map 1097728 8192 rw 50 (negsuc 0) 0) (Ok (Returned 1097728)) (Some (plain 265 268 r ∷ plain 268 270 rw ∷ []))
    ∷ kernel_step 0 (Protect 1097728 8192 rw) (Ok (Returned 0)) (Some (plain 265 268 r ∷ plain 268 270 rw ∷ []))
    ∷ kernel_step 0 (Remap 1085440 12288 12288 5 0) (Ok (Returned 140737354121216)) (Some (plain 265 268 r ∷ plain 268 270 rw ∷ plain 34359705596 34359705599 r ∷ []))
    ∷ kernel_step 0 (Touch 265 Write) (Ok (Signal AccErr)) None
    ∷ kernel_step 0 (Map 1122304 16384 r 50 (negsuc 0) 0) (Ok (Returned 1122304)) (Some (plain 265 268 r ∷ plain 268 270 rw ∷ plain 274 278 r ∷ plain 34359705596 34359705599 r ∷ []))
    ∷ kernel_step 0 (Protect 1085440 53248 rw) (Err 12) (Some (plain 265 268 rw ∷ plain 268 270 rw ∷ plain 274 278 r ∷ plain 34359705596 34359705599 r ∷ []))
    ∷ kernel_step 0 (Protect 1101824 16384 r) (Err 12) (Some (plain 265 268 rw ∷ plain 268 269 rw ∷ plain 269 270 r ∷ plain 274 278 r ∷ plain 34359705596 34359705599 r ∷ []))
    ∷ kernel_step 0 (Protect 1101824 4096 r) (Ok (Returned 0)) (Some (plain 265 268 rw ∷ plain 268 269 rw ∷ plain 269 270 r ∷ plain 274 278 r ∷ plain 34359705596 34359705599 r ∷ []))
    ∷ kernel_step 0 (Map 1097728 12288 r 50 (negsuc 0) 0) (Ok (Returned 1097728)) (Some (plain 265 268 rw ∷ plain 268 271 r ∷ plain 274 278 r ∷ plain 34359705596 34359705599 r ∷ []))
    ∷ kernel_step 0 (Protect 1097728 4096 r) (Ok (Returned 0)) (Some (plain 265 268 rw ∷ plain 268 271 r ∷ plain 274 278 r ∷ plain 34359705596 34359705599 r ∷ []))
    ∷ kernel_step 0 (Remap 1126400 12288 12288 5 0) (Ok (Returned 140737354108928)) (Some (plain 265 268 rw ∷ plain 268 271 r ∷ plain 274 278 r ∷ plain 34359705593 34359705596 r ∷ plain 34359705596 34359705599 r ∷ []))
    ∷ kernel_step 0 (Map 0 68719476736 r 34 (negsuc 0) 0) (Ok (Returned 140668632563712)) (Some (plain 265 268 rw ∷ plain 268 271 r ∷ plain 274 278 r ∷ plain 34342927872 34359705088 r ∷ plain 34359705593 34359705596 r ∷ plain 34359705596 34359705599 r ∷ []))
    ∷ kernel_step 0 (Protect 1134592 4096 r) (Ok (Returned 0)) (Some (plain 265 268 rw ∷ plain 268 271 r ∷ plain 274 278 r ∷ plain 34342927872 34359705088 r ∷ plain 34359705593 34359705596 r ∷ plain 34359705596 34359705599 r ∷ []))
    ∷ kernel_step 0 (Fork 1) (Ok (Returned 0)) None
    ∷ kernel_step 0 (Unmap 1085440 12288) (Ok (Returned 0)) (Some (plain 268 271 r ∷ plain 274 278 r ∷ plain 34342927872 34359705088 r ∷ plain 34359705593 34359705596 r ∷ plain 34359705596 34359705599 r ∷ []))
    ∷ kernel_step 0 (Protect 1097728 12288 r) (Ok (Returned 0)) (Some (plain 268 271 r ∷ plain 274 278 r ∷ plain 34342927872 34359705088 r ∷ plain 34359705593 34359705596 r ∷ plain 34359705596 34359705599 r ∷ []))
    ∷ kernel_step 1 (Touch 274 Read) (Ok (Serves 274 278 r false 0)) None
    ∷ kernel_step 1 (Remap 1122304 16384 16384 7 1138688) (Ok (Returned 1138688)) (Some (plain 265 268 rw ∷ plain 268 271 r ∷ plain 274 282 r ∷ plain 34342927872 34359705088 r ∷ plain 34359705593 34359705596 r ∷ plain 34359705596 34359705599 r ∷ []))
    ∷ kernel_step 0 (Unmap 1122304 16384) (Ok (Returned 0)) (Some (plain 268 271 r ∷ plain 34342927872 34359705088 r ∷ plain 34359705593 34359705596 r ∷ plain 34359705596 34359705599 r ∷ []))
    ∷ kernel_step 0 (Remap 1097728 0 12288 1 0) (Err 22) (Some (plain 268 271 r ∷ plain 34342927872 34359705088 r ∷ plain 34359705593 34359705596 r ∷ plain 34359705596 34359705599 r ∷ []))
    ∷ kernel_step 1 (Remap 1089536 12288 12288 5 0) (Err 14) (Some (plain 265 268 rw ∷ plain 268 271 r ∷ plain 274 282 r ∷ plain 34342927872 34359705088 r ∷ plain 34359705593 34359705596 r ∷ plain 34359705596 34359705599 r ∷ []))
    ∷ kernel_step 1 (Map 140737354133504 8192 r 50 (negsuc 0) 0) (Ok (Returned 140737354133504)) (Some (plain 265 268 rw ∷ plain 268 271 r ∷ plain 274 282 r ∷ plain 34342927872 34359705088 r ∷ plain 34359705593 34359705596 r ∷ plain 34359705596 34359705599 r ∷ plain 34359705599 34359705601 r ∷ []))
    ∷ kernel_step 0 (Touch 268 Exec) (Ok (Signal AccErr)) (Some (plain 268 271 r ∷ plain 34342927872 34359705088 r ∷ plain 34359705593 34359705596 r ∷ plain 34359705596 34359705599 r ∷ []))
    ∷ kernel_step 1 (Unmap 1077248 20480) (Ok (Returned 0)) (Some (plain 268 271 r ∷ plain 274 282 r ∷ plain 34342927872 34359705088 r ∷ plain 34359705593 34359705596 r ∷ plain 34359705596 34359705599 r ∷ plain 34359705599 34359705601 r ∷ []))
    ∷ []

-- written_220: the kernel
abbrev pub written_220_on : Kernel
written_220_on = record { rules = linux_6_16; machine = record { lowest_built = 16; memory = 245000; stack = 8388608; has_keys = true; huge_always = true; files_are_huge = false; vsyscall = Xonly }; config = config 4096 140737354133504 65530 0 ([]) }

-- written_220: its answers
abbrev pub written_220 : List Step
written_220 =
    kernel_step 0 (Map 1064960 8192 r 50 (negsuc 0) 0) (Ok (Returned 1064960)) (Some (plain 260 262 r ∷ []))
    ∷ kernel_step 0 (Map 1085440 16384 rw 50 (negsuc 0) 0) (Ok (Returned 1085440)) (Some (plain 260 262 r ∷ plain 265 269 rw ∷ []))
    ∷ kernel_step 0 (Protect 1069056 8192 rw) (Err 12) (Some (plain 260 261 r ∷ plain 261 262 rw ∷ plain 265 269 rw ∷ []))
    ∷ kernel_step 0 (Protect 1077248 4096 rw) (Err 12) (Some (plain 260 261 r ∷ plain 261 262 rw ∷ plain 265 269 rw ∷ []))
    ∷ kernel_step 0 (Fork 1) (Ok (Returned 0)) None
    ∷ kernel_step 1 (Protect 1064960 4096 r) (Ok (Returned 0)) (Some (plain 260 261 r ∷ plain 261 262 rw ∷ plain 265 269 rw ∷ []))
    ∷ kernel_step 0 (Fork 2) (Ok (Returned 0)) None
    ∷ kernel_step 2 (Protect 1056768 8192 r) (Err 12) (Some (plain 260 261 r ∷ plain 261 262 rw ∷ plain 265 269 rw ∷ []))
    ∷ kernel_step 1 (Remap 1060864 16384 16384 3 1060864) (Err 14) (Some (plain 260 261 r ∷ plain 261 262 rw ∷ plain 265 269 rw ∷ []))
    ∷ kernel_step 1 (Touch 267 Write) (Ok (Serves 265 269 rw false 0)) None
    ∷ kernel_step 1 (Touch 267 Write) (Ok (Serves 265 269 rw false 0)) None
    ∷ kernel_step 1 (Touch 260 Write) (Ok (Signal AccErr)) None
    ∷ kernel_step 1 (Map 1085440 8192 r 50 (negsuc 0) 0) (Ok (Returned 1085440)) (Some (plain 260 261 r ∷ plain 261 262 rw ∷ plain 265 267 r ∷ plain 267 269 rw ∷ []))
    ∷ kernel_step 0 (Touch 261 Read) (Ok (Serves 261 262 rw false 0)) None
    ∷ kernel_step 2 (Protect 1081344 12288 r) (Err 12) (Some (plain 260 261 r ∷ plain 261 262 rw ∷ plain 265 269 rw ∷ []))
    ∷ kernel_step 1 (Unmap 1085440 8192) (Ok (Returned 0)) (Some (plain 260 261 r ∷ plain 261 262 rw ∷ plain 267 269 rw ∷ []))
    ∷ kernel_step 0 (Remap 1093632 16384 16384 7 1077248) (Err 14) (Some (plain 260 261 r ∷ plain 261 262 rw ∷ plain 267 269 rw ∷ []))
    ∷ kernel_step 0 (Touch 260 Write) (Ok (Signal AccErr)) None
    ∷ kernel_step 1 (Protect 1048576 12288 rw) (Err 12) (Some (plain 260 261 r ∷ plain 261 262 rw ∷ plain 267 269 rw ∷ []))
    ∷ kernel_step 1 (Protect 1069056 4096 rw) (Ok (Returned 0)) (Some (plain 260 261 r ∷ plain 261 262 rw ∷ plain 267 269 rw ∷ []))
    ∷ kernel_step 1 (Protect 1069056 4096 rw) (Ok (Returned 0)) (Some (plain 260 261 r ∷ plain 261 262 rw ∷ plain 267 269 rw ∷ []))
    ∷ kernel_step 0 (Map 1056768 8192 r 50 (negsuc 0) 0) (Ok (Returned 1056768)) (Some (plain 258 261 r ∷ plain 261 262 rw ∷ plain 267 269 rw ∷ []))
    ∷ kernel_step 1 (Touch 267 Write) (Ok (Serves 267 269 rw false 0)) None
    ∷ kernel_step 0 (Map 1048576 16384 rw 50 (negsuc 0) 0) (Ok (Returned 1048576)) (Some (plain 256 260 rw ∷ plain 260 261 r ∷ plain 261 262 rw ∷ plain 267 269 rw ∷ []))
    ∷ kernel_step 2 (Remap 1077248 16384 16384 3 1093632) (Err 14) (Some (plain 260 261 r ∷ plain 261 262 rw ∷ plain 265 269 rw ∷ []))
    ∷ kernel_step 1 (Map 1052672 12288 r 50 (negsuc 0) 0) (Ok (Returned 1052672)) (Some (plain 257 261 r ∷ plain 261 262 rw ∷ plain 267 269 rw ∷ []))
    ∷ kernel_step 0 (Touch 261 Read) (Ok (Serves 261 262 rw false 0)) (Some (plain 256 260 rw ∷ plain 260 261 r ∷ plain 261 262 rw ∷ plain 267 269 rw ∷ []))
    ∷ kernel_step 1 (Remap 1069056 16384 16384 5 0) (Err 14) (Some (plain 257 261 r ∷ plain 261 262 rw ∷ plain 267 269 rw ∷ []))
    ∷ kernel_step 2 (Remap 1073152 12288 12288 5 0) (Err 14) (Some (plain 260 261 r ∷ plain 261 262 rw ∷ plain 265 269 rw ∷ []))
    ∷ kernel_step 1 (Unmap 1052672 4096) (Ok (Returned 0)) (Some (plain 258 261 r ∷ plain 261 262 rw ∷ plain 267 269 rw ∷ []))
    ∷ []

-- hard_243: the kernel
abbrev pub hard_243_on : Kernel
hard_243_on = record { rules = linux_6_16; machine = record { lowest_built = 16; memory = 245000; stack = 8388608; has_keys = true; huge_always = true; files_are_huge = false; vsyscall = Xonly }; config = config 4096 140737354133504 65530 0 (file_row 3 true true 5000 ∷ file_row 4 true true 5000 ∷ []) }

-- hard_243: its answers
abbrev pub hard_243 : List Step
hard_243 =
    kernel_step 0 (Map 1056768 12288 rx 50 (negsuc 0) 0) (Ok (Returned 1056768)) (Some (plain 258 261 rx ∷ []))
    ∷ kernel_step 0 (Map 1052672 8192 rw 18 (pos 3) 12288) (Ok (Returned 1052672)) (Some (filed 257 259 rw false 12288 1 ∷ plain 259 261 rx ∷ []))
    ∷ kernel_step 0 (Remap 1064960 4096 4096 7 1060864) (Ok (Returned 1060864)) (Some (filed 257 259 rw false 12288 1 ∷ plain 259 261 rx ∷ []))
    ∷ kernel_step 0 (Remap 1060864 4096 4096 3 1048576) (Ok (Returned 1048576)) (Some (plain 256 257 rx ∷ filed 257 259 rw false 12288 1 ∷ plain 260 261 rx ∷ []))
    ∷ kernel_step 0 (Remap 1052672 0 4096 0 0) (Err 22) (Some (plain 256 257 rx ∷ filed 257 259 rw false 12288 1 ∷ plain 260 261 rx ∷ []))
    ∷ kernel_step 0 (Remap 1052672 8192 8192 3 1040384) (Ok (Returned 1040384)) (Some (filed 254 256 rw false 12288 1 ∷ plain 256 257 rx ∷ plain 260 261 rx ∷ []))
    ∷ kernel_step 0 (Map 1048576 4096 r 50 (negsuc 0) 0) (Ok (Returned 1048576)) (Some (filed 254 256 rw false 12288 1 ∷ plain 256 257 r ∷ plain 260 261 rx ∷ []))
    ∷ kernel_step 0 (Unmap 1044480 4096) (Ok (Returned 0)) (Some (filed 254 255 rw false 12288 1 ∷ plain 256 257 r ∷ plain 260 261 rx ∷ []))
    ∷ kernel_step 0 (Touch 262 Write) (Ok (Signal MapErr)) None
    ∷ kernel_step 0 (Map 1110016 12288 r 17 (pos 3) 8192) (Ok (Returned 1110016)) (Some (filed 254 255 rw false 12288 1 ∷ plain 256 257 r ∷ plain 260 261 rx ∷ filed 271 274 r true 8192 1 ∷ []))
    ∷ kernel_step 0 (Map 1101824 16384 r 50 (negsuc 0) 0) (Ok (Returned 1101824)) (Some (filed 254 255 rw false 12288 1 ∷ plain 256 257 r ∷ plain 260 261 rx ∷ plain 269 273 r ∷ filed 273 274 r true 16384 1 ∷ []))
    ∷ kernel_step 0 (Map 1093632 8192 x 273 (pos 4) 8192) (Err 22) (Some (filed 254 255 rw false 12288 1 ∷ plain 256 257 r ∷ plain 260 261 rx ∷ plain 269 273 r ∷ filed 273 274 r true 16384 1 ∷ []))
    ∷ kernel_step 0 (Remap 1114112 4096 8192 1 0) (Ok (Returned 140737354125312)) (Some (filed 254 255 rw false 12288 1 ∷ plain 256 257 r ∷ plain 260 261 rx ∷ plain 269 272 r ∷ filed 273 274 r true 16384 1 ∷ plain 34359705597 34359705599 r ∷ []))
    ∷ kernel_step 0 (Map 1028096 12288 rw 18 (pos 3) 0) (Ok (Returned 1028096)) (Some (filed 251 255 rw false 0 1 ∷ plain 256 257 r ∷ plain 260 261 rx ∷ plain 269 272 r ∷ filed 273 274 r true 16384 1 ∷ plain 34359705597 34359705599 r ∷ []))
    ∷ kernel_step 0 (Remap 1048576 20480 16384 1 0) (Ok (Returned 1048576)) (Some (filed 251 255 rw false 0 1 ∷ plain 256 257 r ∷ plain 269 272 r ∷ filed 273 274 r true 16384 1 ∷ plain 34359705597 34359705599 r ∷ []))
    ∷ kernel_step 0 (Touch 266 Write) (Ok (Signal MapErr)) None
    ∷ kernel_step 0 (Remap 1048576 57344 57344 3 1118208) (Err 14) (Some (filed 251 255 rw false 0 1 ∷ plain 256 257 r ∷ plain 269 272 r ∷ plain 34359705597 34359705599 r ∷ []))
    ∷ kernel_step 0 (Remap 1101824 0 4096 3 1097728) (Err 22) (Some (filed 251 255 rw false 0 1 ∷ plain 256 257 r ∷ plain 269 272 r ∷ plain 34359705597 34359705599 r ∷ []))
    ∷ kernel_step 0 (Touch 251 Read) (Ok (Serves 251 255 rw false 0)) None
    ∷ kernel_step 0 (Map 1056768 12288 w 32802 (negsuc 0) 0) (Ok (Returned 1056768)) (Some (filed 251 255 rw false 0 1 ∷ plain 256 257 r ∷ plain 258 261 w ∷ plain 269 272 r ∷ plain 34359705597 34359705599 r ∷ []))
    ∷ kernel_step 0 (Touch 256 Read) (Ok (Serves 256 257 r false 0)) None
    ∷ kernel_step 0 (Touch 256 Write) (Ok (Signal AccErr)) None
    ∷ kernel_step 0 (Touch 252 Exec) (Ok (Signal AccErr)) None
    ∷ kernel_step 0 (Touch 271 Write) (Ok (Signal AccErr)) None
    ∷ kernel_step 0 (Touch 254 Read) (Ok (Signal BusErr)) None
    ∷ kernel_step 0 (Map 0 4096 rw 1 (pos 4) 4096) (Ok (Returned 140737354121216)) (Some (filed 251 255 rw false 0 1 ∷ plain 256 257 r ∷ plain 258 261 w ∷ plain 269 272 r ∷ filed 34359705596 34359705597 rw true 4096 2 ∷ plain 34359705597 34359705599 r ∷ []))
    ∷ kernel_step 0 (Remap 1048576 4096 8192 1 0) (Ok (Returned 1048576)) (Some (filed 251 255 rw false 0 1 ∷ plain 256 258 r ∷ plain 258 261 w ∷ plain 269 272 r ∷ filed 34359705596 34359705597 rw true 4096 2 ∷ plain 34359705597 34359705599 r ∷ []))
    ∷ kernel_step 0 (Protect 1073152 16384 rw) (Err 12) (Some (filed 251 255 rw false 0 1 ∷ plain 256 258 r ∷ plain 258 261 w ∷ plain 269 272 r ∷ filed 34359705596 34359705597 rw true 4096 2 ∷ plain 34359705597 34359705599 r ∷ []))
    ∷ kernel_step 0 (Map 1118208 16384 rx 50 (negsuc 0) 0) (Ok (Returned 1118208)) (Some (filed 251 255 rw false 0 1 ∷ plain 256 258 r ∷ plain 258 261 w ∷ plain 269 272 r ∷ plain 273 277 rx ∷ filed 34359705596 34359705597 rw true 4096 2 ∷ plain 34359705597 34359705599 r ∷ []))
    ∷ kernel_step 0 (Touch 256 Read) (Ok (Serves 256 258 r false 0)) (Some (filed 251 255 rw false 0 1 ∷ plain 256 258 r ∷ plain 258 261 w ∷ plain 269 272 r ∷ plain 273 277 rx ∷ filed 34359705596 34359705597 rw true 4096 2 ∷ plain 34359705597 34359705599 r ∷ []))
    ∷ []

-- hard_272: the kernel
abbrev pub hard_272_on : Kernel
hard_272_on = record { rules = linux_6_16; machine = record { lowest_built = 16; memory = 245000; stack = 8388608; has_keys = true; huge_always = true; files_are_huge = false; vsyscall = Xonly }; config = config 4096 140737354133504 65530 0 (file_row 3 false true 0 ∷ file_row 4 false true 90000 ∷ []) }

-- hard_272: its answers
abbrev pub hard_272 : List Step
hard_272 =
    kernel_step 0 (Map 1048576 16384 r 50 (negsuc 0) 0) (Ok (Returned 1048576)) (Some (plain 256 260 r ∷ []))
    ∷ kernel_step 0 (Map 1085440 8192 r 50 (negsuc 0) 0) (Ok (Returned 1085440)) (Some (plain 256 260 r ∷ plain 265 267 r ∷ []))
    ∷ kernel_step 0 (Map 0 4096 r 32769 (pos 3) 0) (Err 13) (Some (plain 256 260 r ∷ plain 265 267 r ∷ []))
    ∷ kernel_step 0 (Touch 257 Exec) (Ok (Signal AccErr)) None
    ∷ kernel_step 0 (Map 1126400 4096 r 50 (negsuc 0) 0) (Ok (Returned 1126400)) (Some (plain 256 260 r ∷ plain 265 267 r ∷ plain 275 276 r ∷ []))
    ∷ kernel_step 0 (Touch 275 Write) (Ok (Signal AccErr)) None
    ∷ kernel_step 0 (Protect 1085440 8192 r) (Ok (Returned 0)) (Some (plain 256 260 r ∷ plain 265 267 r ∷ plain 275 276 r ∷ []))
    ∷ kernel_step 0 (Protect 1085440 8192 r) (Ok (Returned 0)) (Some (plain 256 260 r ∷ plain 265 267 r ∷ plain 275 276 r ∷ []))
    ∷ kernel_step 0 (Unmap 1048576 12288) (Ok (Returned 0)) (Some (plain 259 260 r ∷ plain 265 267 r ∷ plain 275 276 r ∷ []))
    ∷ kernel_step 0 (Remap 1126400 4096 4096 7 1122304) (Ok (Returned 1122304)) (Some (plain 259 260 r ∷ plain 265 267 r ∷ plain 274 276 r ∷ []))
    ∷ kernel_step 0 (Protect 1122304 8192 rw) (Ok (Returned 0)) (Some (plain 259 260 r ∷ plain 265 267 r ∷ plain 274 276 rw ∷ []))
    ∷ kernel_step 0 (Protect 1089536 4096 rw) (Ok (Returned 0)) (Some (plain 259 260 r ∷ plain 265 266 r ∷ plain 266 267 rw ∷ plain 274 276 rw ∷ []))
    ∷ kernel_step 0 (Remap 1060864 8192 4096 1 0) (Ok (Returned 1060864)) (Some (plain 259 260 r ∷ plain 265 266 r ∷ plain 266 267 rw ∷ plain 274 276 rw ∷ []))
    ∷ kernel_step 0 (Map 1097728 12288 r 50 (negsuc 0) 0) (Ok (Returned 1097728)) (Some (plain 259 260 r ∷ plain 265 266 r ∷ plain 266 267 rw ∷ plain 268 271 r ∷ plain 274 276 rw ∷ []))
    ∷ kernel_step 0 (Map 1064960 12288 rw 306 (negsuc 0) 0) (Ok (Returned 1064960)) (Some (plain 259 260 r ∷ plain 260 263 rw ∷ plain 265 266 r ∷ plain 266 267 rw ∷ plain 268 271 r ∷ plain 274 276 rw ∷ []))
    ∷ kernel_step 0 (Map 1064960 16384 r 34 (negsuc 0) 0) (Ok (Returned 140737354117120)) (Some (plain 259 260 r ∷ plain 260 263 rw ∷ plain 265 266 r ∷ plain 266 267 rw ∷ plain 268 271 r ∷ plain 274 276 rw ∷ plain 34359705595 34359705599 r ∷ []))
    ∷ kernel_step 0 (Protect 1060864 4096 r) (Ok (Returned 0)) (Some (plain 259 260 r ∷ plain 260 263 rw ∷ plain 265 266 r ∷ plain 266 267 rw ∷ plain 268 271 r ∷ plain 274 276 rw ∷ plain 34359705595 34359705599 r ∷ []))
    ∷ kernel_step 0 (Protect 1122304 4096 r) (Ok (Returned 0)) (Some (plain 259 260 r ∷ plain 260 263 rw ∷ plain 265 266 r ∷ plain 266 267 rw ∷ plain 268 271 r ∷ plain 274 275 r ∷ plain 275 276 rw ∷ plain 34359705595 34359705599 r ∷ []))
    ∷ kernel_step 0 (Map 1052672 4096 r 50 (negsuc 0) 0) (Ok (Returned 1052672)) (Some (plain 257 258 r ∷ plain 259 260 r ∷ plain 260 263 rw ∷ plain 265 266 r ∷ plain 266 267 rw ∷ plain 268 271 r ∷ plain 274 275 r ∷ plain 275 276 rw ∷ plain 34359705595 34359705599 r ∷ []))
    ∷ kernel_step 0 (Remap 1126400 0 4096 0 0) (Err 22) (Some (plain 257 258 r ∷ plain 259 260 r ∷ plain 260 263 rw ∷ plain 265 266 r ∷ plain 266 267 rw ∷ plain 268 271 r ∷ plain 274 275 r ∷ plain 275 276 rw ∷ plain 34359705595 34359705599 r ∷ []))
    ∷ kernel_step 0 (Touch 269 Read) (Ok (Serves 268 271 r false 0)) None
    ∷ kernel_step 0 (Map 1048576 8192 rw 18 (pos 4) 0) (Err 13) (Some (plain 257 258 r ∷ plain 259 260 r ∷ plain 260 263 rw ∷ plain 265 266 r ∷ plain 266 267 rw ∷ plain 268 271 r ∷ plain 274 275 r ∷ plain 275 276 rw ∷ plain 34359705595 34359705599 r ∷ []))
    ∷ kernel_step 0 (Remap 1089536 4096 4096 7 1118208) (Ok (Returned 1118208)) (Some (plain 257 258 r ∷ plain 259 260 r ∷ plain 260 263 rw ∷ plain 265 266 r ∷ plain 266 267 rw ∷ plain 268 271 r ∷ plain 273 274 rw ∷ plain 274 275 r ∷ plain 275 276 rw ∷ plain 34359705595 34359705599 r ∷ []))
    ∷ kernel_step 0 (Map 0 8192 rw 32802 (negsuc 0) 0) (Ok (Returned 140737354108928)) (Some (plain 257 258 r ∷ plain 259 260 r ∷ plain 260 263 rw ∷ plain 265 266 r ∷ plain 266 267 rw ∷ plain 268 271 r ∷ plain 273 274 rw ∷ plain 274 275 r ∷ plain 275 276 rw ∷ plain 34359705593 34359705595 rw ∷ plain 34359705595 34359705599 r ∷ []))
    ∷ kernel_step 0 (Map 1077248 4096 rw 17 (pos 4) 8192) (Err 13) (Some (plain 257 258 r ∷ plain 259 260 r ∷ plain 260 263 rw ∷ plain 265 266 r ∷ plain 266 267 rw ∷ plain 268 271 r ∷ plain 273 274 rw ∷ plain 274 275 r ∷ plain 275 276 rw ∷ plain 34359705593 34359705595 rw ∷ plain 34359705595 34359705599 r ∷ []))
    ∷ kernel_step 0 (Touch 257 Exec) (Ok (Signal AccErr)) None
    ∷ kernel_step 0 (Map 1093632 12288 r 34 (negsuc 0) 0) (Ok (Returned 140737354096640)) (Some (plain 257 258 r ∷ plain 259 260 r ∷ plain 260 263 rw ∷ plain 265 266 r ∷ plain 266 267 rw ∷ plain 268 271 r ∷ plain 273 274 rw ∷ plain 274 275 r ∷ plain 275 276 rw ∷ plain 34359705590 34359705593 r ∷ plain 34359705593 34359705595 rw ∷ plain 34359705595 34359705599 r ∷ []))
    ∷ kernel_step 0 (Map 0 4096 rw 258 (pos 4) 12288) (Err 13) (Some (plain 257 258 r ∷ plain 259 260 r ∷ plain 260 263 rw ∷ plain 265 266 r ∷ plain 266 267 rw ∷ plain 268 271 r ∷ plain 273 274 rw ∷ plain 274 275 r ∷ plain 275 276 rw ∷ plain 34359705590 34359705593 r ∷ plain 34359705593 34359705595 rw ∷ plain 34359705595 34359705599 r ∷ []))
    ∷ kernel_step 0 (Map 1118208 4096 r 17 (pos 4) 8192) (Err 13) (Some (plain 257 258 r ∷ plain 259 260 r ∷ plain 260 263 rw ∷ plain 265 266 r ∷ plain 266 267 rw ∷ plain 268 271 r ∷ plain 273 274 rw ∷ plain 274 275 r ∷ plain 275 276 rw ∷ plain 34359705590 34359705593 r ∷ plain 34359705593 34359705595 rw ∷ plain 34359705595 34359705599 r ∷ []))
    ∷ kernel_step 0 (Map 1081344 4096 rw 32818 (negsuc 0) 0) (Ok (Returned 1081344)) (Some (plain 257 258 r ∷ plain 259 260 r ∷ plain 260 263 rw ∷ plain 264 265 rw ∷ plain 265 266 r ∷ plain 266 267 rw ∷ plain 268 271 r ∷ plain 273 274 rw ∷ plain 274 275 r ∷ plain 275 276 rw ∷ plain 34359705590 34359705593 r ∷ plain 34359705593 34359705595 rw ∷ plain 34359705595 34359705599 r ∷ []))
    ∷ []

-- hard_331: the kernel
abbrev pub hard_331_on : Kernel
hard_331_on = record { rules = linux_6_16; machine = record { lowest_built = 16; memory = 245000; stack = 8388608; has_keys = true; huge_always = true; files_are_huge = false; vsyscall = Xonly }; config = config 4096 140737354133504 65530 1077248 ([]) }

-- hard_331: its answers
abbrev pub hard_331 : List Step
hard_331 =
    kernel_step 0 (Map 1114112 12288 r 50 (negsuc 0) 0) (Ok (Returned 1114112)) (Some (plain 272 275 r ∷ []))
    ∷ kernel_step 0 (Map 0 4096 r 33 (negsuc 0) 0) (Ok (Returned 140737354129408)) (Some (plain 272 275 r ∷ filed 34359705598 34359705599 r true 0 1 ∷ []))
    ∷ kernel_step 0 (Protect 1118208 8192 rx) (Ok (Returned 0)) (Some (plain 272 273 r ∷ plain 273 275 rx ∷ filed 34359705598 34359705599 r true 0 1 ∷ []))
    ∷ kernel_step 0 (Protect 1114112 4096 x) (Ok (Returned 0)) (Some (plain 272 273 x ∷ plain 273 275 rx ∷ filed 34359705598 34359705599 r true 0 1 ∷ []))
    ∷ kernel_step 0 (Remap 1118208 16384 16384 3 1097728) (Err 14) (Some (plain 272 273 x ∷ plain 273 275 rx ∷ filed 34359705598 34359705599 r true 0 1 ∷ []))
    ∷ kernel_step 0 (Remap 1097728 8192 8192 7 1105920) (Err 14) (Some (plain 272 273 x ∷ plain 273 275 rx ∷ filed 34359705598 34359705599 r true 0 1 ∷ []))
    ∷ kernel_step 0 (Remap 1097728 4096 4096 3 1089536) (Err 14) (Some (plain 272 273 x ∷ plain 273 275 rx ∷ filed 34359705598 34359705599 r true 0 1 ∷ []))
    ∷ kernel_step 0 (Break 1093640) (Ok (Returned 1093640)) (Some (heap 263 268 rw ∷ plain 272 273 x ∷ plain 273 275 rx ∷ filed 34359705598 34359705599 r true 0 1 ∷ []))
    ∷ kernel_step 0 (Touch 270 Write) (Ok (Signal MapErr)) None
    ∷ kernel_step 0 (Remap 1101824 16384 12288 3 1093632) (Err 14) (Some (heap 263 268 rw ∷ plain 272 273 x ∷ plain 273 275 rx ∷ filed 34359705598 34359705599 r true 0 1 ∷ []))
    ∷ kernel_step 0 (Remap 1126400 8192 16384 3 1110016) (Err 14) (Some (heap 263 268 rw ∷ plain 272 273 x ∷ plain 273 275 rx ∷ filed 34359705598 34359705599 r true 0 1 ∷ []))
    ∷ kernel_step 0 (Map 1069056 16384 rw 50 (negsuc 0) 0) (Ok (Returned 1069056)) (Some (heap 261 268 rw ∷ plain 272 273 x ∷ plain 273 275 rx ∷ filed 34359705598 34359705599 r true 0 1 ∷ []))
    ∷ kernel_step 0 (Protect 1101824 4096 w) (Err 12) (Some (heap 261 268 rw ∷ plain 272 273 x ∷ plain 273 275 rx ∷ filed 34359705598 34359705599 r true 0 1 ∷ []))
    ∷ kernel_step 0 (Protect 1101824 4096 rw) (Err 12) (Some (heap 261 268 rw ∷ plain 272 273 x ∷ plain 273 275 rx ∷ filed 34359705598 34359705599 r true 0 1 ∷ []))
    ∷ kernel_step 0 (Remap 1105920 8192 12288 3 1093632) (Err 14) (Some (heap 261 268 rw ∷ plain 272 273 x ∷ plain 273 275 rx ∷ filed 34359705598 34359705599 r true 0 1 ∷ []))
    ∷ kernel_step 0 (Map 1089536 12288 rw 49 (negsuc 0) 0) (Ok (Returned 1089536)) (Some (heap 261 266 rw ∷ filed 266 269 rw true 0 2 ∷ plain 272 273 x ∷ plain 273 275 rx ∷ filed 34359705598 34359705599 r true 0 1 ∷ []))
    ∷ kernel_step 0 (Map 140737354125312 4096 rx 50 (negsuc 0) 0) (Ok (Returned 140737354125312)) (Some (heap 261 266 rw ∷ filed 266 269 rw true 0 2 ∷ plain 272 273 x ∷ plain 273 275 rx ∷ plain 34359705597 34359705598 rx ∷ filed 34359705598 34359705599 r true 0 1 ∷ []))
    ∷ kernel_step 0 (Protect 1073152 16384 rw) (Ok (Returned 0)) (Some (heap 261 266 rw ∷ filed 266 269 rw true 0 2 ∷ plain 272 273 x ∷ plain 273 275 rx ∷ plain 34359705597 34359705598 rx ∷ filed 34359705598 34359705599 r true 0 1 ∷ []))
    ∷ kernel_step 0 (Protect 1069056 16384 r) (Ok (Returned 0)) (Some (heap 261 265 r ∷ heap 265 266 rw ∷ filed 266 269 rw true 0 2 ∷ plain 272 273 x ∷ plain 273 275 rx ∷ plain 34359705597 34359705598 rx ∷ filed 34359705598 34359705599 r true 0 1 ∷ []))
    ∷ kernel_step 0 (Break 1069056) (Ok (Returned 1093640)) (Some (heap 261 265 r ∷ heap 265 266 rw ∷ filed 266 269 rw true 0 2 ∷ plain 272 273 x ∷ plain 273 275 rx ∷ plain 34359705597 34359705598 rx ∷ filed 34359705598 34359705599 r true 0 1 ∷ []))
    ∷ kernel_step 0 (Map 1085440 16384 rw 50 (negsuc 0) 0) (Ok (Returned 1085440)) (Some (heap 261 265 r ∷ heap 265 269 rw ∷ plain 272 273 x ∷ plain 273 275 rx ∷ plain 34359705597 34359705598 rx ∷ filed 34359705598 34359705599 r true 0 1 ∷ []))
    ∷ kernel_step 0 (Protect 1069056 16384 rw) (Ok (Returned 0)) (Some (heap 261 269 rw ∷ plain 272 273 x ∷ plain 273 275 rx ∷ plain 34359705597 34359705598 rx ∷ filed 34359705598 34359705599 r true 0 1 ∷ []))
    ∷ kernel_step 0 (Map 1048576 8192 rw 49 (negsuc 0) 0) (Ok (Returned 1048576)) (Some (filed 256 258 rw true 0 3 ∷ heap 261 269 rw ∷ plain 272 273 x ∷ plain 273 275 rx ∷ plain 34359705597 34359705598 rx ∷ filed 34359705598 34359705599 r true 0 1 ∷ []))
    ∷ kernel_step 0 (Touch 272 Write) (Ok (Signal PkuErr)) None
    ∷ kernel_step 0 (Remap 1089536 8192 8192 7 1048576) (Ok (Returned 1048576)) (Some (plain 256 258 rw ∷ heap 261 269 rw ∷ plain 272 273 x ∷ plain 273 275 rx ∷ plain 34359705597 34359705598 rx ∷ filed 34359705598 34359705599 r true 0 1 ∷ []))
    ∷ kernel_step 0 (Protect 1048576 4096 r) (Ok (Returned 0)) (Some (plain 256 257 r ∷ plain 257 258 rw ∷ heap 261 269 rw ∷ plain 272 273 x ∷ plain 273 275 rx ∷ plain 34359705597 34359705598 rx ∷ filed 34359705598 34359705599 r true 0 1 ∷ []))
    ∷ kernel_step 0 (Touch 263 Write) (Ok (Serves 261 269 rw false 0)) None
    ∷ kernel_step 0 (Touch 256 Exec) (Ok (Signal AccErr)) None
    ∷ kernel_step 0 (Map 1122304 12288 w 50 (negsuc 0) 0) (Ok (Returned 1122304)) (Some (plain 256 257 r ∷ plain 257 258 rw ∷ heap 261 269 rw ∷ plain 272 273 x ∷ plain 273 274 rx ∷ plain 274 277 w ∷ plain 34359705597 34359705598 rx ∷ filed 34359705598 34359705599 r true 0 1 ∷ []))
    ∷ kernel_step 0 (Protect 1114112 12288 rwx) (Ok (Returned 0)) (Some (plain 256 257 r ∷ plain 257 258 rw ∷ heap 261 269 rw ∷ plain 272 275 rwx ∷ plain 275 277 w ∷ plain 34359705597 34359705598 rx ∷ filed 34359705598 34359705599 r true 0 1 ∷ []))
    ∷ []

-- The definitions answer all of these traces as Linux 6.16.12 did.
pub record AllOfLinux_6_16 : Type 0 where
  pub written_1_holds : IsAsRecorded written_1_on written_1
  pub hard_3_holds : IsAsRecorded hard_3_on hard_3
  pub written_limit_7_holds : IsAsRecorded written_limit_7_on written_limit_7
  pub written_9_holds : IsAsRecorded written_9_on written_9
  pub sealed_10_holds : IsAsRecorded sealed_10_on sealed_10
  pub hard_11_holds : IsAsRecorded hard_11_on hard_11
  pub written_12_holds : IsAsRecorded written_12_on written_12
  pub written_limit_15_holds : IsAsRecorded written_limit_15_on written_limit_15
  pub written_limit_23_holds : IsAsRecorded written_limit_23_on written_limit_23
  pub written_28_holds : IsAsRecorded written_28_on written_28
  pub written_30_holds : IsAsRecorded written_30_on written_30
  pub written_limit_31_holds : IsAsRecorded written_limit_31_on written_limit_31
  pub sealed_34_holds : IsAsRecorded sealed_34_on sealed_34
  pub written_36_holds : IsAsRecorded written_36_on written_36
  pub hard_limit_37_holds : IsAsRecorded hard_limit_37_on hard_limit_37
  pub hard_40_holds : IsAsRecorded hard_40_on hard_40
  pub written_41_holds : IsAsRecorded written_41_on written_41
  pub hard_43_holds : IsAsRecorded hard_43_on hard_43
  pub hard_limit_45_holds : IsAsRecorded hard_limit_45_on hard_limit_45
  pub written_limit_47_holds : IsAsRecorded written_limit_47_on written_limit_47
  pub written_49_holds : IsAsRecorded written_49_on written_49
  pub hard_limit_53_holds : IsAsRecorded hard_limit_53_on hard_limit_53
  pub written_65_holds : IsAsRecorded written_65_on written_65
  pub hard_limit_69_holds : IsAsRecorded hard_limit_69_on hard_limit_69
  pub hard_88_holds : IsAsRecorded hard_88_on hard_88
  pub hard_120_holds : IsAsRecorded hard_120_on hard_120
  pub sealed_122_holds : IsAsRecorded sealed_122_on sealed_122
  pub written_limit_135_holds : IsAsRecorded written_limit_135_on written_limit_135
  pub hard_limit_141_holds : IsAsRecorded hard_limit_141_on hard_limit_141
  pub written_161_holds : IsAsRecorded written_161_on written_161
  pub written_166_holds : IsAsRecorded written_166_on written_166
  pub written_174_holds : IsAsRecorded written_174_on written_174
  pub written_188_holds : IsAsRecorded written_188_on written_188
  pub hard_195_holds : IsAsRecorded hard_195_on hard_195
  pub written_198_holds : IsAsRecorded written_198_on written_198
  pub hard_208_holds : IsAsRecorded hard_208_on hard_208
  pub written_220_holds : IsAsRecorded written_220_on written_220
  pub hard_243_holds : IsAsRecorded hard_243_on hard_243
  pub hard_272_holds : IsAsRecorded hard_272_on hard_272
  pub hard_331_holds : IsAsRecorded hard_331_on hard_331
