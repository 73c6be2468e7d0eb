pub mod JudgeState
