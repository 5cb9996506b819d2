pub mod LoopStates
