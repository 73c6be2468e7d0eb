use Rattle.dfu_device.specs.Stage.{state_of, code_of, poll_of_stage}
use Rattle.dfu_device.specs.DeviceView.{profile_of}
use Rattle.dfu_device.specs.Parts.{stage_of}
use Rattle.dfu_device.proofs.StatusBytes.{status_front_answers}
use Rattle.dfu_device.proofs.device_state.status_in.Goals as goal

pub returns-clause-answers : goal.returns-clause-answers
returns-clause-answers c = λ room spare block len holds.
    let stage = stage_of c.args.mode spare block in
    status_front_answers c.in-Ok.status c.code.result (code_of stage) c.poll_ms.result (poll_of_stage (profile_of c.args.config.now room)
    stage)
    c.state.result (state_of stage) len c.encode.result c.in-Ok.ensures.ok (c.code.ensures spare block)
    (c.poll_ms.ensures.value room spare block holds)
    (c.state.ensures spare block) c.encode.ensures.fields c.encode.ensures.string
