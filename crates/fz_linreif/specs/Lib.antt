pub mod ReifiedLinears
