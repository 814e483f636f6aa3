pub mod Joining
pub mod Launching
pub mod Apart
mod Inputs
pub mod OneLaunch
pub mod Alone
pub mod JoinedInputs
pub mod AnyOrder
pub mod Upgrades
pub mod Parted
