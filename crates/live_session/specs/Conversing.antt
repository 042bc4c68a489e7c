-- What a session reads, gives and ends with.
use Rattle.std.specs.Prelude.{ℕ, ◌≡◌, ◌+◌, ◌-◌, ◌*◌, ◌^◌, ◌<◌, ◌≤◌, List, length, take}
use Rattle.std.specs.Io.KnownBytes.{Appends, IsAtEnd}
use Rattle.io_edge.specs.Edge.{SourceView, SinkView, FailedLast, OfTaken}
use Rattle.live_session.specs.declared.status.Status.{Status}
use Rattle.live_session.specs.declared.status.Status.TheVariants as statuses
use Rattle.live_session.specs.Sessions.{answers_of, session_text}

-- a beginning of so many bytes was given of what is given for an input that ends
abbrev pub GivesFront : ℕ → List ℕ → SinkView → SinkView → Type 0
GivesFront count taken old new = Appends old.written new.written (take count (session_text taken))

-- Why a session ended so, and what was given for the bytes that were taken. It is done where the input ends, and then all was given. Where a
-- read failed, the answers to the whole lines so far were given, and nothing else. Where a write failed, not all was given. Nothing failed
-- where memory ran out, which it does for no input without a byte, and where there are too many lines and reads: a byte is paid for each, when
-- it is taken or when it is answered.
abbrev pub EndsAs : Status → List ℕ → SourceView → SourceView → SinkView → SinkView → Type 0
EndsAs statuses.Done taken source source' sink sink' = IsAtEnd source'.left × (source'.faults ≡ source.faults) × (sink'.faults ≡ sink.faults)
    × Appends sink.written sink'.written (session_text taken)
EndsAs statuses.ReadFault taken source source' sink sink' = (source'.faults ≡ source.faults + 1) × FailedLast source'.just_failed
    × (sink'.faults ≡ sink.faults) × Appends sink.written sink'.written (answers_of taken)
EndsAs statuses.WriteFault taken source source' sink sink' = (source'.faults ≡ source.faults) × (sink'.faults ≡ sink.faults + 1)
    × FailedLast sink'.just_failed × (count : ℕ) × (count < length (session_text taken)) × GivesFront count taken sink sink'
EndsAs statuses.NoMemory taken source source' sink sink' = (source'.faults ≡ source.faults) × (sink'.faults ≡ sink.faults)
    × (0 < length taken) × (count : ℕ) × GivesFront count taken sink sink'
EndsAs statuses.TooMany taken source source' sink sink' = (source'.faults ≡ source.faults) × (sink'.faults ≡ sink.faults)
    × (2 ^ 64 - 1 ≤ 2 * length taken) × (count : ℕ) × GivesFront count taken sink sink'

-- some bytes were taken, and the session ended so with them
abbrev pub IsConversation : Status → SourceView → SourceView → SinkView → SinkView → Type 0
IsConversation status source source' sink sink' = OfTaken source source' (λ taken. EndsAs status taken source source' sink sink')
