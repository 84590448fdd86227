-- One job and the header of a packed order, as the code holds them, and the jobs place by place.
pub mod Fields
pub mod Asked
pub mod Facts
pub mod Words
pub mod Bits
pub mod Numbers
pub mod Places
