pub mod AdderCut
pub mod ExecCut
pub mod SeatCut
pub mod Hands
