mod SecondSlotImage
mod Units
mod Asked
mod UnchangedImage
mod Allowing
mod Known
