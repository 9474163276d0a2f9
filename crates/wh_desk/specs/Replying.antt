-- What a host replies to a question, and what a desk does.
use Rattle.std.specs.Prelude.{◌≡◌, ℕ, List, [], Option, Some, Result, Ok, Err, IfErr, IfOk, OnErr, OnOk}
use Rattle.std.specs.Global.{Vec}
use Rattle.wh_params.specs.View.{view_params, view_quota}
use Rattle.wh_space_model.specs.declared.plain.InstId.{InstId}
use Rattle.wh_space_model.specs.declared.plain.SwapError.{SwapError}
use Rattle.wh_space_model.specs.Forks.{Copies}
use Rattle.wh_space_model.specs.Places.{Enters, Exits}
use Rattle.wh_space_model.specs.Stores.{Epochs, ended}
use Rattle.wh_swap.specs.DeviceCalls.{ServesOn}
use Rattle.wh_host_model.specs.Host.Worlds.{promised}
use Rattle.wh_host_model.specs.Host.Happens.{IsCancel, IsRefuel, IsRetry}
use Rattle.wh_admit.specs.declared.error.AdmitError.{AdmitError}
use Rattle.wh_admit.specs.declared.fork_error.ForkError.{ForkError}
use Rattle.wh_instance.specs.declared.stages.CallStatus.{CallStatus}
use Rattle.wh_transcript.specs.Transcripts.{TranscriptState}
use Rattle.wh_host.specs.declared.error.HostError.{HostError}
use Rattle.wh_host.specs.declared.error.HostError.TheVariants as hosting
use Rattle.wh_host.specs.declared.error.ModuleError.{ModuleError}
use Rattle.wh_host.specs.declared.error.UnloadError.{UnloadError}
use Rattle.wh_host.specs.declared.parts.ModuleId.{ModuleId}
use Rattle.wh_host.specs.Admitting.{AnswersAdmit}
use Rattle.wh_host.specs.CallRequests.{AnswersCall, AnswersInvoke, AnswersInvokeAt}
use Rattle.wh_host.specs.ForkAnswers.{AnswersFork, claim_by}
use Rattle.wh_host.specs.HostReads.{ReadsBytes, read_faults}
use Rattle.wh_host.specs.Hosting.{HostState}
use Rattle.wh_host.specs.Loading.{AnswersLoad}
use Rattle.wh_host.specs.Paging.{MovesOnly}
use Rattle.wh_host.specs.Releasing.{AnswersRelease}
use Rattle.wh_host.specs.declared.counts.HostCounts.{HostCounts}
use Rattle.wh_host.specs.declared.report.HostUsage.{HostUsage}
use Rattle.wh_host.specs.declared.report.InstanceReport.{InstanceReport}
use Rattle.wh_host.specs.LiveOutputs.{SaysNoInstance}
use Rattle.wh_host.specs.Reporting.{ReportsHost, ReportsInstance, ReportsUsage, view_report, view_row, view_usage}
use Rattle.wh_host.specs.declared.report.Report as told
use Rattle.wh_host.specs.Showing.{ShowsInstance}
use Rattle.wh_host.specs.Telling.{TellsOf}
use Rattle.wh_host.specs.Unloading.{AnswersUnload}
use Rattle.wh_desk.specs.declared.copying.DeskExport.{DeskExport}
use Rattle.wh_desk.specs.declared.error.DeskReadError.{DeskReadError}
use Rattle.wh_desk.specs.declared.error.DeskReadError.TheVariants.{Host}
use Rattle.wh_desk.specs.declared.error.ExportsError.{ExportsError}
use Rattle.wh_desk.specs.declared.trace.Question.{Question}
use Rattle.wh_desk.specs.declared.trace.Question.TheVariants.{Load, Unload, Admit, Fork, Invoke, InvokeAt, Refuel, Cancel, Retry, Release, BeginEpoch, Status, Report, Usage, UsageOf, Transcript, Output, Ends, Exports, Read}
use Rattle.wh_desk.specs.declared.trace.TraceEntry.{TraceEntry}
use Rattle.wh_desk.specs.declared.request.DeskReply.{DeskReply}
use Rattle.wh_desk.specs.declared.request.DeskReply.TheVariants as says
use Rattle.wh_desk.specs.OwnCopies.{CopiesBytes, CopiesEnds, CopiesExports, CopiesOutput}
use Rattle.wh_desk.specs.Permits.{OwnershipState, Permits, refusal}

-- A host replies so, and leaves the other. It does what is asked, or nothing at an error; what is only read leaves it as it is.
abbrev pub HostReplies : HostState → Question → DeskReply → HostState → Type 0
HostReplies h (Load bytes) reply h2 =
    (r : Result ModuleId ModuleError) × (reply ≡ says.Loaded r) × AnswersLoad h bytes r h2
    × OnErr r (h2 ≡ h)
HostReplies h (Unload of) reply h2 =
    (r : Result Unit UnloadError) × (reply ≡ says.Unloaded r) × AnswersUnload h of.number r h2
    × (h2.space ≡ h.space) × OnErr r (h2 ≡ h)
HostReplies h (Admit of params) reply h2 =
    (r : Result InstId AdmitError) × (reply ≡ says.Admitted r) × AnswersAdmit h of.number (view_params params) r h2
    × IfOk r (λ id. (size : ℕ) × Enters h.space id.place (promised id.number (view_params params)) size h2.space)
    × OnErr r (h2 ≡ h)
HostReplies h (Fork id quota) reply h2 =
    (r : Result InstId ForkError) × (reply ≡ says.Forked r) × AnswersFork h id (view_quota quota) r h2
    × IfOk r (λ copy. Copies h.space id.place copy.place (claim_by copy.number (view_quota quota)) h2.space)
    × OnErr r (h2 ≡ h)
HostReplies h (Invoke id name given fuel) reply h2 =
    (r : Result ℕ HostError) × (reply ≡ says.Invoked r) × AnswersInvoke h id name given fuel r h2
    × OnErr r (h2 ≡ h)
HostReplies h (InvokeAt id at given fuel) reply h2 =
    (r : Result ℕ HostError) × (reply ≡ says.Invoked r) × AnswersInvokeAt h id at given fuel r h2
    × OnErr r (h2 ≡ h)
HostReplies h (Refuel id fuel) reply h2 =
    (r : Result Unit HostError) × (reply ≡ says.Done r) × AnswersCall h (λ w a w2. IsRefuel w id fuel a w2) r h2
    × (h2.space ≡ h.space) × OnErr r (h2 ≡ h)
HostReplies h (Cancel id) reply h2 =
    (r : Result Unit HostError) × (reply ≡ says.Done r) × AnswersCall h (λ w a w2. IsCancel w id a w2) r h2
    × OnOk r (h2.space ≡ ended h.space id.place) × OnErr r (h2 ≡ h)
HostReplies h (Retry id) reply h2 =
    (r : Result Unit HostError) × (reply ≡ says.Done r) × AnswersCall h (λ w a w2. IsRetry w id a w2) r h2
    × (h2.space ≡ h.space) × OnErr r (h2 ≡ h)
HostReplies h (Release id) reply h2 =
    (r : Result (Vec ℕ) HostError) × (reply ≡ says.Released r) × AnswersRelease h id r h2
    × OnOk r (Exits h.space id.place h2.space) × OnErr r (h2 ≡ h)
HostReplies h BeginEpoch reply h2 = (reply ≡ says.Begun) × MovesOnly h h2 × Epochs h.space h2.space
HostReplies h (Status id at) reply h2 =
    (told : Option CallStatus) × (reply ≡ says.Status told) × TellsOf h id at told × (h2 ≡ h)
HostReplies h Report reply h2 =
    (r : Result told.Report HostError) × (reply ≡ says.Report r) × IfOk r (λ report. ReportsHost h (view_report report))
    × IfErr r (λ e. e ≡ hosting.Memory) × (h2 ≡ h)
HostReplies h Usage reply h2 =
    (usage : HostUsage) × (counts : HostCounts) × (reply ≡ says.Usage usage counts) × ReportsUsage h (view_usage usage)
    × (counts ≡ h.counts) × (h2 ≡ h)
HostReplies h (UsageOf id) reply h2 =
    (r : Result InstanceReport HostError) × (reply ≡ says.UsageOf r) × IfOk r (λ row. ReportsInstance h id (view_row row))
    × IfErr r (λ e. SaysNoInstance h id e) × (h2 ≡ h)
HostReplies h (Transcript id) reply h2 =
    (r : Result TranscriptState HostError) × (reply ≡ says.Transcript r) × ShowsInstance h id r × (h2 ≡ h)
HostReplies h (Output id from most) reply h2 =
    (r : Result (Vec ℕ) HostError) × (reply ≡ says.Output r) × CopiesOutput h id from most r × (h2 ≡ h)
HostReplies h (Ends id from most) reply h2 =
    (r : Result (Vec CallStatus) HostError) × (reply ≡ says.Ends r) × CopiesEnds h id from most r × (h2 ≡ h)
HostReplies h (Exports of) reply h2 =
    (r : Result (Vec DeskExport) ExportsError) × (reply ≡ says.Exports r) × CopiesExports h of.number r × (h2 ≡ h)
HostReplies h (Read id at length) reply h2 =
    (r : Result (Vec ℕ) DeskReadError) × (reply ≡ says.Read r) × CopiesBytes h id at length r × (h2 ≡ h)

module _ {D : Type 0} (keeps honest : D → Type 0) (faults : D → List SwapError) where
  -- the device was called, and of its calls these failed
  pub record IsCalled (d : Option D) (more : List SwapError) (d2 : Option D) : Type 0 where
    pub before : D
    pub after : D
    pub was : d ≡ Some before
    pub is : d2 ≡ Some after
    pub serves : ServesOn keeps honest faults before more after

  -- What becomes of the device: to read bytes it may be called, and for nothing else. The bytes are those that the instance sees,
  -- where it has read right.
  abbrev pub CallsDevice : HostState → Question → DeskReply → Option D → Option D → Type 0
  CallsDevice h (Read id at length) (says.Read (Ok bytes)) d d2 =
      (c : IsCalled d [] d2) × (honest c.after → ReadsBytes h id at bytes.items)
  CallsDevice h (Read id at length) (says.Read (Err (Host error))) d d2 = IsCalled d (read_faults (Err error)) d2
  CallsDevice h question reply d d2 = d2 ≡ d

  -- The reply is the host's, and its device is called for it alone; or who asks may not, and nothing changes.
  pub data IsRight (owned : OwnershipState) (e : TraceEntry D) : Type 0 where
    by_host : Permits owned e.who e.question → HostReplies e.at.host e.question e.reply e.left.host
        → CallsDevice e.at.host e.question e.reply e.at.device e.left.device → IsRight owned e
    by_refusal : ¬ (Permits owned e.who e.question) → e.reply ≡ refusal e.question → e.left ≡ e.at → IsRight owned e
