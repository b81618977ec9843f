mod Closed
mod EachPass
mod EndSteps
mod MessageCounts
mod Order
mod ReceiverSteps
pub mod SenderPlaces
mod SenderSteps
