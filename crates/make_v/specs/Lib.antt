pub mod Velocities
