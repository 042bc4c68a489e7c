-- For `TraceBuilder::config`: what its loop keeps.
use Rattle.std.proofs.Common.{◌≡◌, take}
use Rattle.trace_reader.proofs.builder.TraceBuilder.config.Given as goal

-- the first files were copied
abbrev pub invariant-loop-file : goal.invariant-loop-file
invariant-loop-file l = l.files.items ≡ take l.file-index l.file-items
