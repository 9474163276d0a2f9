-- What is asked of a desk.
use Rattle.std.specs.Prelude.{⊤}
use Rattle.wh_desk.specs.declared.request.DeskRequest.{DeskRequest}
use Rattle.wh_desk.specs.declared.request.DeskRequest.TheVariants as asks
use Rattle.wh_desk.specs.declared.trace.Question.{Question}
use Rattle.wh_desk.specs.declared.trace.Question.TheVariants.{Load, Unload, Admit, Fork, Invoke, InvokeAt, Refuel, Cancel, Retry, Release, BeginEpoch, Status, Report, Usage, UsageOf, Transcript, Output, Ends, Exports, Read}

-- what a request asks
abbrev pub question_of : DeskRequest → Question
question_of (asks.Load bytes) = Load bytes.now
question_of (asks.Unload of) = Unload of
question_of (asks.Admit of params) = Admit of params
question_of (asks.Fork id quota) = Fork id quota
question_of (asks.Invoke id name given fuel) = Invoke id name.now given.now fuel
question_of (asks.InvokeAt id at given fuel) = InvokeAt id at given.now fuel
question_of (asks.Refuel id fuel) = Refuel id fuel
question_of (asks.Cancel id) = Cancel id
question_of (asks.Retry id) = Retry id
question_of (asks.Release id) = Release id
question_of asks.BeginEpoch = BeginEpoch
question_of (asks.Status id at) = Status id at
question_of asks.Report = Report
question_of asks.Usage = Usage
question_of (asks.UsageOf id) = UsageOf id
question_of (asks.Transcript id) = Transcript id
question_of (asks.Output id from most) = Output id from most
question_of (asks.Ends id from most) = Ends id from most
question_of (asks.Exports of) = Exports of
question_of (asks.Read id at length) = Read id at length

-- ---- within the crate

-- it is asked about calls of an instance, or for an epoch
abbrev pub ChangesCalls : Question → Type 0
ChangesCalls (Invoke id name given fuel) = ⊤
ChangesCalls (InvokeAt id at given fuel) = ⊤
ChangesCalls (Refuel id fuel) = ⊤
ChangesCalls (Cancel id) = ⊤
ChangesCalls (Retry id) = ⊤
ChangesCalls BeginEpoch = ⊤
ChangesCalls other = ⊥

-- the host is only looked at
abbrev pub OnlyLooks : Question → Type 0
OnlyLooks (Status id at) = ⊤
OnlyLooks Report = ⊤
OnlyLooks Usage = ⊤
OnlyLooks (UsageOf id) = ⊤
OnlyLooks (Transcript id) = ⊤
OnlyLooks (Output id from most) = ⊤
OnlyLooks (Ends id from most) = ⊤
OnlyLooks (Exports of) = ⊤
OnlyLooks other = ⊥

-- bytes of an instance are read, for which the device may be called
abbrev pub AsksForBytes : Question → Type 0
AsksForBytes (Read id at length) = ⊤
AsksForBytes other = ⊥
