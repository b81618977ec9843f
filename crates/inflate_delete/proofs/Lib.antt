mod Cloned
mod DeleteRefused
mod FillRefused
mod SlotsOver
