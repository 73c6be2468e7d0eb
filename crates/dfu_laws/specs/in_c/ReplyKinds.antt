-- Kinds of replies that fit a request.
use Rattle.std.specs.Prelude.{List, [], ◌∷◌}
use Rattle.dfu_wire.specs.declared.setups.Setup.{Setup}
use Rattle.dfu_wire.specs.declared.requests.Request.{Request}
use Rattle.dfu_wire.specs.declared.requests.Request.TheVariants as request
use Rattle.dfu_wire.specs.Setup.{IsSetup}
use Rattle.dfu_wire.specs.Request.{SetupAsksFor}
use Rattle.dfu_device.specs.declared.answer.Answer.TheVariants as answer
use Rattle.dfu_laws.specs.board.Board.{Event, Handle, BoardReply, Answers, BoardStep}

-- A reply fits its request if it is not a bare acknowledgement of a GETSTATUS, GETSTATE or UPLOAD, and has no bytes for any other request.
abbrev pub ReplyFitsRequest : Request → BoardReply → Type 0
ReplyFitsRequest (request.GetStatus len) (Answers answer.Ack out) = ⊥
ReplyFitsRequest (request.GetState len) (Answers answer.Ack out) = ⊥
ReplyFitsRequest (request.Upload block len) (Answers answer.Ack out) = ⊥
ReplyFitsRequest (request.GetStatus len) says = Unit {0}
ReplyFitsRequest (request.GetState len) says = Unit {0}
ReplyFitsRequest (request.Upload block len) says = Unit {0}
ReplyFitsRequest q (Answers answer.Bytes out) = ⊥
ReplyFitsRequest q says = Unit {0}

-- The reply to a call of `handle` fits the request of its setup. A reply to any other event always fits.
abbrev pub ReplyFitsSetup : Event → BoardReply → Type 0
ReplyFitsSetup (Handle setup body) says = (p : Setup) (q : Request) → IsSetup p setup → SetupAsksFor p q → ReplyFitsRequest q says
ReplyFitsSetup event says = Unit {0}

-- Each reply to a setup in these steps fits the request of the setup.
abbrev pub RepliesFitSetups : List BoardStep → Type 0
RepliesFitSetups [] = Unit {0}
RepliesFitSetups (s ∷ rest) = ReplyFitsSetup s.event s.says × RepliesFitSetups rest
